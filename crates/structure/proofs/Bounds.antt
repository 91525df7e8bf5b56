-- The problem that a well-formed book sets is bounded by the book's counts.
use Rattle.std.proofs.Common.{◌≡◌, ℕ, ◌-◌, ◌≤◌, Bool, true, false, List, Some, None, unwrap_or, arith}
use Rattle.std.proofs.lemmas.Bool.{cond_both, false≢true}
use Rattle.std.proofs.ByRecursion.{All-get_or}
use Rattle.book.specs.Meaning.{Fitted, UnitState, free, standing, withheld, Meaning, material_count, unit_count, Listed, FittedWithin, StateWithin, WellFormed}
use Rattle.book.specs.Declined.{inside, state_at, is_standing}
use Rattle.book.specs.Asked.{where_inside, material_at, fitted_at, told_of}
use Rattle.book.specs.Layers.{names}
use Rattle.structure.specs.Problem.{Bounded, problem, list_of}
use Rattle.structure.proofs.Searches.{is_inside, all_named}

-- an answer that is there is of a number in range
answered : (k count : ℕ) (x : Bool) → unwrap_or (where_inside k count x) false ≡ true → (1 ≤ k) × (k ≤ count)
answered k count x =
    cond_both (inside k count) (Some x) None (λ t. unwrap_or t false ≡ true → (1 ≤ k) × (k ≤ count)) (λ i _. (is_inside k count).0 i) (λ _ e. absurd (false≢true e))

-- what a standing unit's list names is a material of the book
listed_known : (m : Meaning) → WellFormed m → (side : Fitted → List ℕ) → ((f : Fitted) → FittedWithin (material_count m) f → Listed (material_count m) (side f)) →
    (u x : ℕ) → names x (list_of side (fitted_at u m)) ≡ true → (1 ≤ x) × (x ≤ material_count m)
listed_known m well side known u x =
    cond_both (inside u (unit_count m)) (told_of (state_at m u)) None (λ t. names x (list_of side t) ≡ true → (1 ≤ x) × (x ≤ material_count m))
    (λ i.
    let (low, high) = (is_inside u (unit_count m)).0 i in
    of_state (state_at m u) (All-get_or (StateWithin (material_count m)) m.units (u - 1) free (omega arith) well.lists))
    (λ _ e. absurd (false≢true e))
  where
    of_state : (s : UnitState) → StateWithin (material_count m) s → names x (list_of side (told_of s)) ≡ true → (1 ≤ x) × (x ≤ material_count m)
    of_state free k n = absurd (false≢true n)
    of_state (standing f) k n = all_named (λ y. (1 ≤ y) × (y ≤ material_count m)) (side f) (known f k).known x n
    of_state (withheld f) k n = absurd (false≢true n)

pub problem_bounded : (m : Meaning) → WellFormed m → Bounded (problem m)
problem_bounded m well = record {
  wanted_known = λ x e. answered x (material_count m) (material_at m x).wanted e;
  bought_known = λ x e. answered x (material_count m) (material_at m x).bought e;
  units_known = λ u e. answered u (unit_count m) (is_standing (state_at m u)) e;
  inputs_known = listed_known m well (λ f. f.inputs) (λ f k. k.inputs);
  outputs_known = listed_known m well (λ f. f.outputs) (λ f k. k.outputs);
}
