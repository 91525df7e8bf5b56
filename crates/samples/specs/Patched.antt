-- Bytes that are changed in one place.
use Rattle.std.specs.Prelude.{ℕ, ◌+◌, List, ◌++◌, length, take, drop}

-- the bytes with `patch` in the place of what stood from `at` on; past the end it is added
abbrev pub patched_with : List ℕ → ℕ → List ℕ → List ℕ
patched_with bytes at patch = take at bytes ++ (patch ++ drop (at + length patch) bytes)
