-- Number columns: how a number stands in a field of fixed width. Bytes are their codes: 32 is a space.
use Rattle.std.specs.Prelude.{◌≡◌, ℕ, ◌-◌, ◌<◌, ◌≤◌, List, ◌++◌, length, replicate, Ok, Err, decimal, Result, ◌≢◌}
use Rattle.columns.specs.declared.Content.{Content}
use Rattle.columns.specs.declared.DoesNotFit.{DoesNotFit}
use Rattle.columns.specs.declared.Content.TheVariants.{Blank, Number, Fault}

-- w spaces: a field of w columns that holds nothing
abbrev pub blanks : ℕ → List ℕ
blanks w = replicate w 32

-- the number n in w columns: its decimal digits at the right, without a zero in front (0 itself is one digit), spaces to their left
unfoldable pub column : ℕ → ℕ → List ℕ
column w n = blanks (w - length (decimal n)) ++ decimal n

-- n has at most nine digits, and they go into w columns
pub record Fits (w n : ℕ) : Type 0 where
  pub small : n < 1000000000
  pub narrow : length (decimal n) ≤ w

-- these bytes, as a field, show the number n
pub record Shows (bytes : List ℕ) (n : ℕ) : Type 0 where
  pub fits : Fits (length bytes) n
  pub written : bytes ≡ column (length bytes) n

-- what each answer of the reader says of the field's bytes
abbrev pub Holds : List ℕ → Content → Type 0
Holds bytes Blank = bytes ≡ blanks (length bytes)
Holds bytes (Number n) = Shows bytes n
Holds bytes Fault = (bytes ≢ blanks (length bytes)) × ((n : ℕ) → Shows bytes n → ⊥)

-- what each answer of the writer says of the memory, which held `before` and holds `after`:
-- written whole, or, where the memory is no field of that width or the number does not fit, untouched
abbrev pub Wrote : (width n : ℕ) → (before after : List ℕ) → Result (Unit {0}) DoesNotFit → Type 0
Wrote width n before after (Ok _) = (length before ≡ width) × Fits width n × (after ≡ column width n)
Wrote width n before after (Err _) = (length before ≡ width → Fits width n → ⊥) × (after ≡ before)
