-- What a book means: one value, so that books of equal meaning have equal terms.
-- Materials and units are numbered from 1; number k stands at place k - 1 of its list.
use Rattle.std.specs.Prelude.{ℕ, ◌≤◌, Bool, List, length}
use Rattle.std.specs.List.{AllByRecursion}

-- a material: whether the dairy wants it, and whether it can be bought
pub record Material : Type 0 where
  pub wanted : Bool
  pub bought : Bool

-- what a unit is fitted with: the numbers of the materials that it takes and of those that it makes
pub record Fitted : Type 0 where
  pub inputs : List ℕ
  pub outputs : List ℕ

-- what is known of a unit number: nothing is fitted there; a unit stands there; a unit is there, but withheld from use
pub data UnitState : Type 0 where
  free : UnitState
  standing : Fitted → UnitState
  withheld : Fitted → UnitState

-- a book: its materials 1 to l and its unit numbers 1 to n
pub record Meaning : Type 0 where
  pub materials : List Material
  pub units : List UnitState

-- how many materials and unit numbers a book has
abbrev pub material_count : Meaning → ℕ
material_count m = length m.materials

abbrev pub unit_count : Meaning → ℕ
unit_count m = length m.units

-- a list of materials that a unit of a book with l materials may have: at most eight, each a material of the book
pub record Listed (l : ℕ) (numbers : List ℕ) : Type 0 where
  pub few : length numbers ≤ 8
  pub known : AllByRecursion (λ x. (1 ≤ x) × (x ≤ l)) numbers

pub record FittedWithin (l : ℕ) (f : Fitted) : Type 0 where
  pub inputs : Listed l f.inputs
  pub outputs : Listed l f.outputs

-- a number's lists are such lists, where it has any
abbrev pub StateWithin : ℕ → UnitState → Type 0
StateWithin l free = Unit {0}
StateWithin l (standing f) = FittedWithin l f
StateWithin l (withheld f) = FittedWithin l f

-- what every book keeps to
pub record WellFormed (m : Meaning) : Type 0 where
  pub few_materials : material_count m ≤ 1024
  pub few_units : unit_count m ≤ 1024
  pub lists : AllByRecursion (StateWithin (material_count m)) m.units
