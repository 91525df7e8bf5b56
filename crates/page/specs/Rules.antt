-- What the fields of a line have to hold, field by field.
use Rattle.std.specs.Prelude.{◌≡◌, ℕ, zero, suc, ◌+◌, ◌*◌, ◌<◌, ◌≤◌, cond, ◌⊎◌, List, [], ◌∷◌, ◌++◌, map, length, take, drop, Some, None, Option, ◌==◌, slice_index}
use Rattle.std.specs.List.{range_with_len}
use Rattle.columns.specs.Columns.{blanks, Shows}
use Rattle.page.specs.Layout.{letter_width, number_width, list_fields, list_width, most, Line, counts, material, unit}

-- what one field has to hold
pub data Rule : Type 0 where
  -- one byte, one of these
  letter : List ℕ → Rule
  -- a number from the first to the second, in columns
  number : ℕ → ℕ → Rule
  -- a list's field: nothing, or a material up to the highest that may be named there, above the one in the field before;
  -- the first field of a list has none before it
  entry : (highest : ℕ) → (before : Option (List ℕ)) → Rule

-- n may follow what the field before holds: a smaller number, and not a blank
abbrev pub Follows : Option (List ℕ) → ℕ → Type 0
Follows None n = 1 ≤ n
Follows (Some before) n = (m : ℕ) × Shows before m × (m < n)

-- the bytes of a field keep to its rule
abbrev pub Right : Rule → List ℕ → Type 0
Right (letter choice) bytes = (i : ℕ) × (i < length choice) × (bytes ≡ slice_index choice i ∷ [])
Right (number low high) bytes = (n : ℕ) × Shows bytes n × (low ≤ n) × (n ≤ high)
Right (entry highest before) bytes = (bytes ≡ blanks number_width) ⊎ ((n : ℕ) × Shows bytes n × (n ≤ highest) × Follows before n)

-- a field of a line: how many columns it has, and its rule
pub record Field : Type 0 where
  pub width : ℕ
  pub rule : Rule

abbrev pub letter_field : List ℕ → Field
letter_field choice = record { width = letter_width; rule = letter choice }

abbrev pub number_field : ℕ → ℕ → Field
number_field low high = record { width = number_width; rule = number low high }

abbrev pub newline_field : Field
newline_field = letter_field (10 ∷ [])

-- the bytes in the field before the i-th (from 0) of a list's bytes
abbrev pub before : List ℕ → ℕ → Option (List ℕ)
before list zero = None
before list (suc i) = Some (take number_width (drop (number_width * i) list))

abbrev pub entry_field : ℕ → List ℕ → ℕ → Field
entry_field highest list i = record { width = number_width; rule = entry highest (before list i) }

-- the fields of a list, whose bytes are given
abbrev pub entry_fields : ℕ → List ℕ → List Field
entry_fields highest list = map (entry_field highest list) (range_with_len 0 list_fields)

-- the highest material that the lists of a unit's line may name: none in the line of a free number
abbrev pub highest_named : ℕ → List ℕ → ℕ
highest_named l line = cond (slice_index line 0 == 45) 0 l

-- the bytes of a unit's two lists, in its line
abbrev pub inputs_in : List ℕ → List ℕ
inputs_in line = take list_width (drop (letter_width + number_width) line)

abbrev pub outputs_in : List ℕ → List ℕ
outputs_in line = take list_width (drop (letter_width + number_width + list_width) line)

-- the fields of a line from the left, on a page with l materials; the line's bytes are given, since a list's field is
-- judged by what stands before it. A withheld number ('W') is no part of a page that is to be read.
abbrev pub fields : ℕ → Line → List ℕ → List Field
fields l counts line = number_field 1 most ∷ (number_field 1 most ∷ (newline_field ∷ []))
fields l (material k) line = letter_field (45 ∷ (80 ∷ (82 ∷ (66 ∷ [])))) ∷ (number_field k k ∷ (newline_field ∷ []))
fields l (unit k) line = letter_field (45 ∷ (83 ∷ [])) ∷ (number_field k k ∷ (entry_fields (highest_named l line) (inputs_in line) ++ (entry_fields (highest_named l line) (outputs_in line) ++ newline_field ∷ [])))
