-- What the check of a page answers.
use Rattle.std.specs.Prelude.{◌≡◌, ℕ, ◌<◌, ◌≤◌, List, [], ◌∷◌, Ok, Err, Result}
use Rattle.std.specs.List.{AllByRecursion}
use Rattle.book.specs.declared.PageFault.{PageFault}
use Rattle.book.specs.Meaning.{UnitState, free, standing, withheld, Meaning, material_count, unit_count, WellFormed}
use Rattle.page.specs.Layout.{most}
use Rattle.page.specs.Format.{page_of}
use Rattle.page.specs.Faults.{Refused}

-- each number is above the one before it, and the first above `last`
abbrev pub Rising : ℕ → List ℕ → Type 0
Rising last [] = Unit {0}
Rising last (x ∷ xs) = (last < x) × Rising x xs

-- a number that may stand on a page that is to be read: not withheld, its lists strictly ascending
abbrev pub Settled : UnitState → Type 0
Settled free = Unit {0}
Settled (standing f) = Rising 0 f.inputs × Rising 0 f.outputs
Settled (withheld f) = ⊥

-- a meaning whose page can be read
pub record Acceptable (m : Meaning) : Type 0 where
  pub well_formed : WellFormed m
  pub some_material : 1 ≤ material_count m
  pub few_materials : material_count m ≤ most
  pub some_unit : 1 ≤ unit_count m
  pub few_units : unit_count m ≤ most
  pub settled : AllByRecursion Settled m.units

-- the bytes are the page of an acceptable meaning with l materials and n units
pub record PageOf (bytes : List ℕ) (l n : ℕ) : Type 0 where
  pub meaning : Meaning
  pub acceptable : Acceptable meaning
  pub materials : l ≡ material_count meaning
  pub units : n ≡ unit_count meaning
  pub written : bytes ≡ page_of meaning

-- what each answer says of the bytes: accepted with the counts of the page that they are, or refused at the first fault
abbrev pub Checked : List ℕ → Result (ℕ × ℕ) PageFault → Type 0
Checked bytes (Ok counts) = PageOf bytes counts.0 counts.1
Checked bytes (Err fault) = Refused bytes fault.line fault.column

-- the bytes have no fault anywhere
abbrev pub Faultless : List ℕ → Type 0
Faultless bytes = (line column : ℕ) → Refused bytes line column → ⊥

-- the bytes are some page
abbrev pub SomePage : List ℕ → Type 0
SomePage bytes = (l : ℕ) × (n : ℕ) × PageOf bytes l n

-- having no fault and being a page are the same
abbrev pub FaultlessIsPage : List ℕ → Type 0
FaultlessIsPage bytes = (Faultless bytes → SomePage bytes) × (SomePage bytes → Faultless bytes)
