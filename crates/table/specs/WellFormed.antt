-- What any rows mean is well-formed, whoever wrote them.
use Rattle.std.specs.Prelude.{◌≡◌, ℕ, ◌≤◌, ◌&&◌, List, [], ◌∷◌, map, length, take, nat_le, nat_lt}
use Rattle.std.proofs.Common.{sym, subst, arith, length-take}
use Rattle.std.proofs.lemmas.List.{length-map}
use Rattle.std.specs.List.{AllByRecursion}
use Rattle.std.proofs.ByRecursion.{All-map}
use Rattle.std.proofs.lemmas.Bool.{cond_both, and_parts, ltb-true, leb-true}
use Rattle.book.specs.declared.books.Class.{Class}
use Rattle.book.specs.declared.books.State.{State}
use Rattle.book.specs.declared.books.State.TheVariants.{Free, Standing, Withheld}
use Rattle.book.specs.Meaning.{Fitted, StateWithin, Listed, FittedWithin, WellFormed}
use Rattle.book.specs.Climbing.{climbing}
use Rattle.table.specs.declared.rows.UnitRow.{UnitRow}
use Rattle.table.specs.Rows.{most_rows, places, material_in, list_in, in_state, state_in, used, materials_in, units_in, of_rows}

-- a climbing front has no more numbers than the list that it is a front of
pub climbing_short : (last highest : ℕ) (xs : List ℕ) → length (climbing last highest xs) ≤ length xs
climbing_short last highest [] = omega arith
climbing_short last highest (x ∷ xs) =
    cond_both (nat_lt last x && nat_le x highest) (x ∷ climbing x highest xs) [] (λ ys. length ys ≤ length (x ∷ xs))
    (λ _. omega (arith, climbing_short x highest xs))
    (λ _. omega arith)

-- its numbers are above 0 and at most the highest
climbing_known : (last highest : ℕ) (xs : List ℕ) → AllByRecursion (λ x. (1 ≤ x) × (x ≤ highest)) (climbing last highest xs)
climbing_known last highest [] = tt
climbing_known last highest (x ∷ xs) =
    cond_both (nat_lt last x && nat_le x highest) (x ∷ climbing x highest xs) [] (AllByRecursion (λ y. (1 ≤ y) × (y ≤ highest)))
    (λ e.
    let p = and_parts (nat_lt last x) (nat_le x highest) e in
    let above = ltb-true last x p.0 in
    ((omega arith, leb-true x highest p.1), climbing_known x highest xs))
    (λ _. tt)

-- the list of a row
list_listed : (l : ℕ) (entries : List ℕ) → Listed l (list_in l entries)
list_listed l entries = record {
  few = omega (arith, climbing_short 0 l (take places entries), length-take places entries);
  known = climbing_known 0 l (take places entries);
}

-- the state of a row
in_state_within : (l : ℕ) (s : State) (f : Fitted) → FittedWithin l f → StateWithin l (in_state s f)
in_state_within l Free f h = tt
in_state_within l Standing f h = h
in_state_within l Withheld f h = h

state_within : (l : ℕ) (r : UnitRow) → StateWithin l (state_in l r)
state_within l r =
    in_state_within l r.state _ (record { inputs = list_listed l r.inputs; outputs = list_listed l r.outputs })

all_within : (l : ℕ) (rows : List UnitRow) → AllByRecursion (λ r. StateWithin l (state_in l r)) rows
all_within l [] = tt
all_within l (r ∷ rows) = (state_within l r, all_within l rows)

-- as many materials and unit numbers are read as rows are used
pub count_read : {R X : Type 0} (g : R → X) (rows : List R) → length (map g (take most_rows rows)) ≡ used rows
count_read g rows = simp (length-map, length-take)

pub count_materials : (ms : List Class) → length (materials_in ms) ≡ used ms
count_materials ms = count_read material_in ms

pub count_units : (l : ℕ) (us : List UnitRow) → length (units_in l us) ≡ used us
count_units l us = count_read (state_in l) us

pub of_rows_well_formed : (ms : List Class) (us : List UnitRow) → WellFormed (of_rows ms us)
of_rows_well_formed ms us = record {
  few_materials = omega (arith, count_materials ms);
  few_units = omega (arith, count_units (used ms) us);
  lists =
      subst (λ l. AllByRecursion (StateWithin l) (units_in (used ms) us)) (sym (count_materials ms))
      (All-map (StateWithin (used ms)) (state_in (used ms)) (take most_rows us) (all_within (used ms) (take most_rows us)));
}
