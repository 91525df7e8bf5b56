-- Flags, one for each number.
use Rattle.std.specs.Prelude.{◌≡◌, ℕ, Bool, false, List, length, slice_index_or}
use Rattle.structure.specs.Problem.{Numbers}

-- the numbers whose flag is set
abbrev pub flagged : List Bool → Numbers
flagged flags k = slice_index_or flags k false

-- flags for 0 to 1,024, set for the numbers of s
pub record Flags (flags : List Bool) (s : Numbers) : Type 0 where
  pub long : length flags ≡ 1025
  pub each : (k : ℕ) → flagged flags k ≡ s k
