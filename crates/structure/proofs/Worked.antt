-- A farm is a book where a test says so, and what a draw over it answers is then computed.
use Rattle.std.proofs.Common.{◌≡◌, ℕ, ◌≤◌, Bool, true, ◌&&◌, leb, List, [], ◌∷◌, length}
use Rattle.std.specs.List.{AllByRecursion}
use Rattle.std.proofs.lemmas.Bool.{and_parts, leb-true}
use Rattle.book.specs.Meaning.{Fitted, UnitState, free, standing, withheld, Meaning, material_count, unit_count, Listed, FittedWithin, StateWithin, WellFormed}
use Rattle.book.specs.Declined.{inside}
use Rattle.structure.specs.Problem.{problem}
use Rattle.structure.specs.Answers.{Draws}
use Rattle.structure.proofs.Searches.{is_inside, each_entry, is_all}
use Rattle.structure.proofs.Bounds.{problem_bounded}
use Rattle.structure.proofs.Verdicts.{verdict, verdict_draws}

-- a list that a unit of a book with l materials may have; a unit's two lists; what is known of a unit number; a book
abbrev list_fits : ℕ → List ℕ → Bool
list_fits l xs = leb (length xs) 8 && each_entry (λ x. inside x l) xs

abbrev unit_fits : ℕ → Fitted → Bool
unit_fits l f = list_fits l f.inputs && list_fits l f.outputs

abbrev state_fits : ℕ → UnitState → Bool
state_fits l free = true
state_fits l (standing f) = unit_fits l f
state_fits l (withheld f) = unit_fits l f

abbrev states_fit : ℕ → List UnitState → Bool
states_fit l [] = true
states_fit l (s ∷ ss) = state_fits l s && states_fit l ss

abbrev pub book_fits : Meaning → Bool
book_fits m = leb (material_count m) 1024 && (leb (unit_count m) 1024 && states_fit (material_count m) m.units)

list_within : (l : ℕ) (xs : List ℕ) → list_fits l xs ≡ true → Listed l xs
list_within l xs e =
    let (few, known) = and_parts (leb (length xs) 8) _ e in
    record { few = leb-true (length xs) 8 few; known = (is_all (λ x. inside x l) (λ x. (1 ≤ x) × (x ≤ l)) (λ x. is_inside x l) xs).0 known }

unit_within : (l : ℕ) (f : Fitted) → unit_fits l f ≡ true → FittedWithin l f
unit_within l f e =
    let (takes, makes) = and_parts (list_fits l f.inputs) (list_fits l f.outputs) e in
    record { inputs = list_within l f.inputs takes; outputs = list_within l f.outputs makes }

state_within : (l : ℕ) (s : UnitState) → state_fits l s ≡ true → StateWithin l s
state_within l free e = tt
state_within l (standing f) e = unit_within l f e
state_within l (withheld f) e = unit_within l f e

states_within : (l : ℕ) (ss : List UnitState) → states_fit l ss ≡ true → AllByRecursion (StateWithin l) ss
states_within l [] e = tt
states_within l (s ∷ ss) e = let (first, rest) = and_parts (state_fits l s) (states_fit l ss) e in (state_within l s first, states_within l ss rest)

pub book_well_formed : (m : Meaning) → book_fits m ≡ true → WellFormed m
book_well_formed m e =
    let (materials, rest) = and_parts (leb (material_count m) 1024) _ e in
    let (units, lists) = and_parts (leb (unit_count m) 1024) _ rest in
    record {
      few_materials = leb-true (material_count m) 1024 materials;
      few_units = leb-true (unit_count m) 1024 units;
      lists = states_within (material_count m) m.units lists;
    }

-- a draw over the book answers what is computed for it
pub answers : (m : Meaning) → book_fits m ≡ true → Draws (problem m) (verdict (problem m))
answers m fits = let well = book_well_formed m fits in verdict_draws (problem m) (problem_bounded m well) well.few_units well.few_materials
