-- What each question answers, as a function of the meaning. A question outside its range is answered by absence.
use Rattle.std.specs.Prelude.{ℕ, ◌-◌, Bool, false, cond, List, length, Some, None, Option, slice_index, slice_index_or}
use Rattle.book.specs.declared.books.Side.{Side}
use Rattle.book.specs.declared.books.Side.TheVariants.{Inputs, Outputs}
use Rattle.book.specs.Meaning.{Material, Fitted, UnitState, free, standing, withheld, Meaning, material_count, unit_count}
use Rattle.book.specs.Declined.{inside, state_at, is_standing}

-- the value, where k is a number from 1 to the count
abbrev pub where_inside : {X : Type 0} → ℕ → ℕ → X → Option X
where_inside k count x = cond (inside k count) (Some x) None

abbrev pub plain : Material
plain = record { wanted = false; bought = false }

-- what is known of material k
abbrev pub material_at : Meaning → ℕ → Material
material_at m k = slice_index_or m.materials (k - 1) plain

abbrev pub wanted_at : ℕ → Meaning → Option Bool
wanted_at k m = where_inside k (material_count m) (material_at m k).wanted

abbrev pub bought_at : ℕ → Meaning → Option Bool
bought_at k m = where_inside k (material_count m) (material_at m k).bought

-- a free or withheld number in range does not stand
abbrev pub stands_at : ℕ → Meaning → Option Bool
stands_at k m = where_inside k (unit_count m) (is_standing (state_at m k))

-- what a standing unit is fitted with; of any other number there is nothing to tell
abbrev pub told_of : UnitState → Option Fitted
told_of free = None
told_of (standing f) = Some f
told_of (withheld f) = None

abbrev pub fitted_at : ℕ → Meaning → Option Fitted
fitted_at k m = cond (inside k (unit_count m)) (told_of (state_at m k)) None

-- how many entries a list of a standing unit has, and the entry at a place, counted from 1
abbrev pub count_in : (Fitted → List ℕ) → Option Fitted → Option ℕ
count_in side None = None
count_in side (Some f) = Some (length (side f))

abbrev pub entry_in : (Fitted → List ℕ) → ℕ → Option Fitted → Option ℕ
entry_in side place None = None
entry_in side place (Some f) = where_inside place (length (side f)) (slice_index (side f) (place - 1))

-- the list on a side: what a unit takes, or what it makes
abbrev pub list_on : Side → Fitted → List ℕ
list_on Inputs f = f.inputs
list_on Outputs f = f.outputs

abbrev pub entry_count_at : ℕ → Side → Meaning → Option ℕ
entry_count_at k side m = count_in (list_on side) (fitted_at k m)

abbrev pub entry_at : ℕ → Side → ℕ → Meaning → Option ℕ
entry_at k side place m = entry_in (list_on side) place (fitted_at k m)
