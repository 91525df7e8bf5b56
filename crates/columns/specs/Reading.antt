-- Reading a field from left to right: what each byte makes of what was read so far.
use Rattle.std.specs.Prelude.{◌≡◌, ℕ, ◌+◌, ◌*◌, ◌<◌, ◌≤◌, ◌≢◌}
use Rattle.columns.specs.declared.Content.{Content}
use Rattle.columns.specs.declared.Content.TheVariants.{Blank, Number, Fault}

-- the byte is a digit
abbrev pub Digit : ℕ → Type 0
Digit byte = (48 ≤ byte) × (byte ≤ 57)

-- a digit may follow this number: it is no lone zero, and has at most eight digits
abbrev pub GoesOn : ℕ → Type 0
GoesOn n = (0 < n) × (n < 100000000)

-- after what was read so far, this byte gives that content
abbrev pub Next : (so_far : Content) (byte : ℕ) (after : Content) → Type 0
Next Blank byte Blank = byte ≡ 32
Next Blank byte (Number m) = Digit byte × (48 + m ≡ byte)
Next Blank byte Fault = (byte ≢ 32) × (Digit byte → ⊥)
Next (Number n) byte Blank = ⊥
Next (Number n) byte (Number m) = Digit byte × GoesOn n × (48 + m ≡ 10 * n + byte)
Next (Number n) byte Fault = Digit byte → GoesOn n → ⊥
Next Fault byte after = after ≡ Fault
