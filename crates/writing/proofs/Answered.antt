-- What the questions of a book tell, number by number. Assumes nothing.
use Rattle.std.proofs.Common.{◌≡◌, ℕ, ◌-◌, ◌<◌, ◌≤◌, List, [], length, get_or, Some, None, Option, refl, ap, ◌∙◌, sym, arith}
use Rattle.std.proofs.lemmas.List.Elements.{All-from_recursion}
use Rattle.std.proofs.lemmas.Grind.{common_steps}
use Rattle.book.specs.declared.books.Side.{Side}
use Rattle.book.specs.declared.books.Side.TheVariants.{Inputs, Outputs}
use Rattle.book.specs.Meaning.{Fitted, UnitState, free, standing, withheld, Meaning, material_count, unit_count, StateWithin, WellFormed}
use Rattle.book.specs.Asked.{plain, told_of, fitted_at, entry_in, entry_at, list_on}
use Rattle.std.proofs.lemmas.List.{get_or-map}
use Rattle.writing.specs.WrittenOut.{settled, as_written}
use Rattle.writing.specs.Told.{told_material, state_from, told_state, list_from, told_list, entry_of}

-- what a book has answered, it answers where it has not changed
pub asked_again : {B X : Type 0} (answer : B → X) {a b : B} {r : X} → r ≡ answer a → a ≡ b → r ≡ answer b
asked_again answer told same = told ∙ ap answer same

-- the entry at a place of a list, and past its end none
pub entry_some : (xs : List ℕ) (place : ℕ) → 1 ≤ place → place ≤ length xs → entry_of xs place ≡ Some (get_or xs (place - 1) 0)
entry_some xs place low high = grind (arith, common_steps)

pub entry_none : (xs : List ℕ) (place : ℕ) → length xs < place → entry_of xs place ≡ None
entry_none xs place above = grind (arith, common_steps)

-- the entries that a book answers are those of the list that is told
entry_from : (side : Side) (place : ℕ) (o : Option Fitted) → 1 ≤ place → entry_in (list_on side) place o ≡ entry_of (list_from side o) place
entry_from side place None low = sym (entry_none [] place low)
entry_from side place (Some f) low = refl

pub entry_told : (side : Side) (place k : ℕ) (m : Meaning) → 1 ≤ place → entry_at k side place m ≡ entry_of (told_list side k m) place
entry_told side place k m low = entry_from side place (fitted_at k m) low

-- a material is told as it is
pub material_told : (m : Meaning) (k : ℕ) → 1 ≤ k → k ≤ material_count m → told_material k m ≡ get_or m.materials (k - 1) plain
material_told m k low high = grind (arith, common_steps)

-- the state of a unit number is told as it goes onto the page
state_settled : (s : UnitState) → state_from (told_of s) ≡ settled s
state_settled free = refl
state_settled (standing f) = refl
state_settled (withheld f) = refl

pub state_written : (m : Meaning) (k : ℕ) → 1 ≤ k → k ≤ unit_count m → told_state k m ≡ get_or (as_written m).units (k - 1) free
state_written m k low high = grind (arith, common_steps, state_settled (get_or m.units (k - 1) free), get_or-map settled m.units (k - 1) free free)

-- a list that is told has at most eight entries
list_few : (l : ℕ) (side : Side) (s : UnitState) → StateWithin l s → length (list_from side (told_of s)) ≤ 8
list_few l side free w = omega arith
list_few l Inputs (standing f) w = w.inputs.few
list_few l Outputs (standing f) w = w.outputs.few
list_few l side (withheld f) w = omega arith

pub few_told : (m : Meaning) (side : Side) (k : ℕ) → WellFormed m → length (told_list side k m) ≤ 8
few_told m side k w = grind (arith, common_steps, list_few (material_count m) side (get_or m.units (k - 1) free), All-from_recursion (StateWithin (material_count m)) m.units w.lists (k - 1) free)
