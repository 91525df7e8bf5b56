-- The page of a meaning, byte for byte. Bytes are their codes.
use Rattle.std.specs.Prelude.{ℕ, ◌+◌, ◌-◌, ◌*◌, Bool, true, false, List, [], ◌∷◌, ◌++◌, length}
use Rattle.book.specs.Meaning.{Material, UnitState, free, standing, withheld, Meaning, material_count, unit_count}
use Rattle.columns.specs.Columns.{blanks, column}
use Rattle.page.specs.Layout.{number_width, list_fields}

abbrev pub newline : ℕ
newline = 10

-- '-' plain, 'P' wanted, 'R' bought, 'B' both
abbrev pub class_letter : (wanted bought : Bool) → ℕ
class_letter false false = 45
class_letter true false = 80
class_letter false true = 82
class_letter true true = 66

-- '-' free, 'S' standing, 'W' withheld
abbrev pub state_letter : UnitState → ℕ
state_letter free = 45
state_letter (standing f) = 83
state_letter (withheld f) = 87

-- the lists of a number; a free one has none
abbrev pub inputs_of : UnitState → List ℕ
inputs_of free = []
inputs_of (standing f) = f.inputs
inputs_of (withheld f) = f.inputs

abbrev pub outputs_of : UnitState → List ℕ
outputs_of free = []
outputs_of (standing f) = f.outputs
outputs_of (withheld f) = f.outputs

-- numbers in columns, one field after another
abbrev pub number_fields : List ℕ → List ℕ
number_fields [] = []
number_fields (x ∷ xs) = column number_width x ++ number_fields xs

-- a list fills its first fields, and the others are blank
abbrev pub list_bytes : List ℕ → List ℕ
list_bytes xs = number_fields xs ++ blanks (number_width * (list_fields - length xs))

-- line 1 of a page with l materials and n units
abbrev pub counts_line : ℕ → ℕ → List ℕ
counts_line l n = column number_width l ++ (column number_width n ++ newline ∷ [])

-- the line of material k
abbrev pub material_line : ℕ → Material → List ℕ
material_line k m = class_letter m.wanted m.bought ∷ (column number_width k ++ newline ∷ [])

-- the line of unit k
abbrev pub unit_line : ℕ → UnitState → List ℕ
unit_line k s = state_letter s ∷ (column number_width k ++ (list_bytes (inputs_of s) ++ (list_bytes (outputs_of s) ++ newline ∷ [])))

-- a line for each, numbered from k on
abbrev pub numbered : {X : Type 0} → (ℕ → X → List ℕ) → ℕ → List X → List ℕ
numbered line k [] = []
numbered line k (x ∷ xs) = line k x ++ numbered line (k + 1) xs

-- the page of a meaning
abbrev pub page_of : Meaning → List ℕ
page_of m = counts_line (material_count m) (unit_count m) ++ (numbered material_line 1 m.materials ++ numbered unit_line 1 m.units)
