-- What each edit says of the table: where it is declined, and where a row is written.
use Rattle.std.proofs.Common.{◌≡◌, ℕ, ◌-◌, min, Bool, true, false, cond, not, ◌&&◌, List, length, set, Some, None, Ok, Err, Option, Result, sym, refl, ap, ◌∙◌, subst}
use Rattle.std.proofs.lemmas.Bool.{cond-true, cond-false, not_from_true, not_from_false, and_parts, and_left, false≢true}
use Rattle.std.proofs.lemmas.Option.{cond_some}
use Rattle.book.specs.declared.Refusal.{Refusal}
use Rattle.book.specs.declared.Refusal.TheVariants.{OutOfRange, BadList, NotFree, NotStanding, NotWithheld}
use Rattle.book.specs.declared.books.Class.{Class}
use Rattle.book.specs.declared.books.State.{State}
use Rattle.book.specs.declared.books.State.TheVariants.{Free, Standing, Withheld}
use Rattle.book.specs.Meaning.{Fitted, free, standing, Meaning, material_count, unit_count}
use Rattle.book.specs.Refusals.{first_refusal}
use Rattle.book.specs.Declined.{inside, fitting, state_at, is_free, is_standing, is_withheld, withheld_at}
use Rattle.book.specs.Edits.{Edit, Edited, with_unit, hidden_state, shown_state, fit_edit, class_edit, hide_edit, show_edit, clear_edit}
use Rattle.table.specs.declared.TableBook.{TableBook}
use Rattle.table.specs.declared.rows.UnitRow.{UnitRow}
use Rattle.table.specs.Rows.{most_rows, used, material_in, fitted_in, list_in, in_state, state_in, materials_in, units_in, entries_of, fitted_row, row_of, Exact}
use Rattle.table.specs.WellFormed.{count_materials, count_units}
use Rattle.table.specs.Tables.{table_meaning, TableKept, rows_keep}
use Rattle.table.proofs.Climbs.{list_in_entries}
use Rattle.table.proofs.Places.{place_of, placed, not_placed}
use Rattle.table.proofs.Seen.{row_in, row_read}
use Rattle.table.proofs.Written.{rows_written, read_written, ExactRow, exact_written, exact_at, restated, standing_holds, withheld_holds, restated_exact}

-- the first refusal of several: one for a failed test is given where the test fails, and passed over where it holds
declined : (test : Bool) (e : Refusal) (rest : Option Refusal) → test ≡ false → cond (not test) (Some e) rest ≡ Some e
declined test e rest h = cond-true _ _ _ (not_from_false test h)

passed : (test : Bool) (e : Refusal) (rest : Option Refusal) → test ≡ true → cond (not test) (Some e) rest ≡ rest
passed test e rest h = cond-false _ _ _ (not_from_true test h)

-- a unit may be fitted with the lists
abbrev pub lists_fit : TableBook → Fitted → Bool
lists_fit t f = fitting (material_count (table_meaning t)) f.inputs && fitting (material_count (table_meaning t)) f.outputs

-- an edit that is refused leaves the table as it is
pub refused : (t : TableBook) (edit : Meaning → Edit) (e : Refusal) (answer : Result (Unit {0}) Refusal) → answer ≡ Err e → first_refusal (edit (table_meaning t)).reasons ≡ Some e → Edited table_meaning edit t t answer
refused t edit e answer is first = subst (Edited table_meaning edit t t) (sym is) (first, refl)

-- a material with no row is out of range
pub class_outside : (t : TableBook) (k : ℕ) (w b : Bool) → None ≡ place_of k (length t.materials.now) → first_refusal (class_edit k w b (table_meaning t)).reasons ≡ Some OutOfRange
class_outside t k w b h = declined _ OutOfRange None (ap (inside k) (count_materials t.materials.now) ∙ not_placed k (length t.materials.now) h)

-- a unit number with no row
module _ (t : TableBook) (k : ℕ) (h : None ≡ place_of k (length t.units.now)) where
  pub unit_outside : inside k (unit_count (table_meaning t)) ≡ false
  unit_outside = ap (inside k) (count_units (used t.materials.now) t.units.now) ∙ not_placed k (length t.units.now) h

  pub withheld_outside : withheld_at (table_meaning t) k ≡ false
  withheld_outside = and_left _ _ unit_outside

  pub hide_outside : first_refusal (hide_edit k (table_meaning t)).reasons ≡ Some OutOfRange
  hide_outside = declined _ OutOfRange _ unit_outside

  pub fit_outside : (f : Fitted) → first_refusal (fit_edit k f (table_meaning t)).reasons ≡ Some OutOfRange
  fit_outside f = declined _ OutOfRange _ unit_outside

-- the table with other rows in one of its memories
abbrev pub with_materials : TableBook → List Class → TableBook
with_materials t rows = record {
  materials = record { ref_ptr = t.materials.ref_ptr; ghost_name = t.materials.ghost_name; now = rows };
  units = t.units;
}

abbrev pub with_units : TableBook → List UnitRow → TableBook
with_units t rows = record {
  materials = t.materials;
  units = record { ref_ptr = t.units.ref_ptr; ghost_name = t.units.ghost_name; now = rows };
}

-- what an accepted edit owes of the table
pub record Accepted (edit : Meaning → Edit) (before after : TableBook) : Type 0 where
  pub told : Edited table_meaning edit before after (Ok tt)
  pub held : TableKept before after

-- the row of a material is written
module _ (t : TableBook) (k i : ℕ) (h : Some i ≡ place_of k (length t.materials.now)) where
  pub class_accepted : (class : Class) → Accepted (class_edit k class.wanted class.bought) t (with_materials t (set t.materials.now i class))
  class_accepted class =
      let p = placed k (length t.materials.now) i h in
      let kept = rows_written t.materials.now i p.few class in
      let same : used (set t.materials.now i class) ≡ used t.materials.now = ap (min most_rows) kept.size in
      let within : inside k (material_count (table_meaning t)) ≡ true = ap (inside k) (count_materials t.materials.now) ∙ p.used in
      record {
        told = (
          passed _ OutOfRange None within,
          ap (λ ms. record { materials = ms; units = units_in (used (set t.materials.now i class)) t.units.now })
              (read_written t.materials.now i p.few class material_in ∙ ap (λ j. set (materials_in t.materials.now) j (material_in class)) p.is)
              ∙ ap (λ l. record { materials = set (materials_in t.materials.now) (k - 1) (material_in class); units = units_in l t.units.now }) same,
        );
        held = record {
          materials_there = refl;
          units_there = refl;
          materials_kept = kept;
          units_kept = rows_keep t.units.now;
          exact = λ e. subst (λ l. Exact l t.units.now) (sym same) e;
        };
      }

-- a unit number with a row
module _ (t : TableBook) (k i : ℕ) (h : Some i ≡ place_of k (length t.units.now)) where
  within : inside k (unit_count (table_meaning t)) ≡ true
  within = ap (inside k) (count_units (used t.materials.now) t.units.now) ∙ (placed k (length t.units.now) i h).used

  -- what is known of it is in its row
  pub state_read : state_at (table_meaning t) k ≡ state_in (used t.materials.now) (row_in t.units.now i)
  state_read =
      let p = placed k (length t.units.now) i h in
      row_read (state_in (used t.materials.now)) t.units.now k free _ p.used ∙ ap (λ j. state_in (used t.materials.now) (row_in t.units.now j)) (sym p.is)

  state_is : (s : State) → (row_in t.units.now i).state ≡ s → state_at (table_meaning t) k ≡ in_state s (fitted_in (used t.materials.now) (row_in t.units.now i))
  state_is s is = state_read ∙ ap (λ u. in_state u (fitted_in (used t.materials.now) (row_in t.units.now i))) is

  -- where the rows hold exactly what they mean, so does this one
  row_exact : Exact (used t.materials.now) t.units.now → ExactRow (used t.materials.now) (row_in t.units.now i)
  row_exact e =
      let p = placed k (length t.units.now) i h in
      exact_at (used t.materials.now) t.units.now i p.few e p.here

  -- an edit that writes the row
  accepted : (edit : Meaning → Edit) (row : UnitRow)
      → first_refusal (edit (table_meaning t)).reasons ≡ None
      → (edit (table_meaning t)).made ≡ with_unit (table_meaning t) k (state_in (used t.materials.now) row)
      → (Exact (used t.materials.now) t.units.now → ExactRow (used t.materials.now) row)
      → Accepted edit t (with_units t (set t.units.now i row))
  accepted edit row none made exact =
      let p = placed k (length t.units.now) i h in
      let l = used t.materials.now in
      record {
        told = (
          none,
          ap (λ us. record { materials = materials_in t.materials.now; units = us })
              (read_written t.units.now i p.few row (state_in l) ∙ ap (λ j. set (units_in l t.units.now) j (state_in l row)) p.is)
              ∙ sym made,
        );
        held = record {
          materials_there = refl;
          units_there = refl;
          materials_kept = rows_keep t.materials.now;
          units_kept = rows_written t.units.now i p.few row;
          exact = λ e. exact_written l t.units.now i p.few e row (exact e);
        };
      }

  -- hide
  pub hide_refused : is_standing (state_in (used t.materials.now) (row_in t.units.now i)) ≡ false → first_refusal (hide_edit k (table_meaning t)).reasons ≡ Some NotStanding
  hide_refused other = passed _ OutOfRange _ within ∙ declined _ NotStanding None (ap is_standing state_read ∙ other)

  pub hide_accepted : (row_in t.units.now i).state ≡ Standing → Accepted (hide_edit k) t (with_units t (set t.units.now i (restated (row_in t.units.now i) Withheld)))
  hide_accepted is =
      accepted (hide_edit k) (restated (row_in t.units.now i) Withheld)
      (passed _ OutOfRange _ within ∙ passed _ NotStanding None (ap is_standing (state_is Standing is)))
      (ap (λ s. with_unit (table_meaning t) k (hidden_state s)) (state_is Standing is))
      (λ e. restated_exact (used t.materials.now) (row_in t.units.now i) Standing Withheld standing_holds withheld_holds is (row_exact e))

  -- the place of a withheld unit's row is told where the row says that the unit is withheld
  pub withheld_told : cond (is_withheld (state_in (used t.materials.now) (row_in t.units.now i))) (Some i) None ≡ cond (withheld_at (table_meaning t) k) (Some (k - 1)) None
  withheld_told =
      let here : withheld_at (table_meaning t) k ≡ is_withheld (state_in (used t.materials.now) (row_in t.units.now i)) =
      ap (λ b. b && is_withheld (state_at (table_meaning t) k)) within ∙ ap is_withheld state_read
      in
      ap (λ b. cond b (Some i) None) (sym here) ∙ ap (λ j. cond (withheld_at (table_meaning t) k) (Some j) None) (placed k (length t.units.now) i h).is

  -- fit
  module _ (f : Fitted) where
    pub fit_bad_list : lists_fit t f ≡ false → first_refusal (fit_edit k f (table_meaning t)).reasons ≡ Some BadList
    fit_bad_list bad = passed _ OutOfRange _ within ∙ declined _ BadList _ bad

    module _ (good : lists_fit t f ≡ true) where
      pub fit_not_free : is_free (state_in (used t.materials.now) (row_in t.units.now i)) ≡ false → first_refusal (fit_edit k f (table_meaning t)).reasons ≡ Some NotFree
      fit_not_free other =
          passed _ OutOfRange _ within ∙ passed _ BadList _ good ∙ declined _ NotFree None (ap is_free state_read ∙ other)

      -- the row reads the lists back
      reads_back : state_in (used t.materials.now) (fitted_row Standing f) ≡ standing f
      reads_back =
          let l = used t.materials.now in
          let n = count_materials t.materials.now in
          let p = and_parts _ _ good in
          ap (λ xs. standing (record { inputs = xs; outputs = list_in l (entries_of f.outputs) })) (list_in_entries l f.inputs (sym (ap (λ m. fitting m f.inputs) n) ∙ p.0))
          ∙ ap (λ ys. standing (record { inputs = f.inputs; outputs = ys })) (list_in_entries l f.outputs (sym (ap (λ m. fitting m f.outputs) n) ∙ p.1))

      fit_row : (row_in t.units.now i).state ≡ Free → Accepted (fit_edit k f) t (with_units t (set t.units.now i (fitted_row Standing f)))
      fit_row is =
          accepted (fit_edit k f) (fitted_row Standing f)
          (passed _ OutOfRange _ within ∙ passed _ BadList _ good ∙ passed _ NotFree None (ap is_free (state_is Free is)))
          (ap (λ s. with_unit (table_meaning t) k s) (sym reads_back))
          (λ e. sym (ap row_of reads_back))

      pub fit_accepted : (xs ys : List ℕ) → xs ≡ entries_of f.inputs → ys ≡ entries_of f.outputs → (row_in t.units.now i).state ≡ Free → Accepted (fit_edit k f) t (with_units t (set t.units.now i (record { state = Standing; inputs = xs; outputs = ys })))
      fit_accepted xs ys are_inputs are_outputs is = rw (are_inputs, are_outputs) (fit_row is)

-- only a withheld unit's row says so
withheld_state : (s : State) (f : Fitted) → is_withheld (in_state s f) ≡ true → s ≡ Withheld
withheld_state Free f h = absurd (false≢true h)
withheld_state Standing f h = absurd (false≢true h)
withheld_state Withheld f h = refl

-- the place of a withheld unit's row is told: what the row holds, and the edits that write it
module _ (t : TableBook) (k i : ℕ) (e : Some i ≡ cond (withheld_at (table_meaning t) k) (Some (k - 1)) None) where
  withheld_is : (withheld_at (table_meaning t) k ≡ true) × (k - 1 ≡ i)
  withheld_is = cond_some _ (k - 1) i (sym e)

  withheld_placed : Some i ≡ place_of k (length t.units.now)
  withheld_placed =
      let p = and_parts _ _ withheld_is.0 in
      ap Some (sym withheld_is.1) ∙ sym (cond-true _ _ _ (sym (ap (inside k) (count_units (used t.materials.now) t.units.now)) ∙ p.0))

  withheld_row : (row_in t.units.now i).state ≡ Withheld
  withheld_row =
      let p = and_parts _ _ withheld_is.0 in
      withheld_state _ _ (sym (ap is_withheld (state_read t k i withheld_placed)) ∙ p.1)

  pub show_accepted : Accepted (show_edit k) t (with_units t (set t.units.now i (restated (row_in t.units.now i) Standing)))
  show_accepted =
      accepted t k i withheld_placed (show_edit k) (restated (row_in t.units.now i) Standing)
      (passed _ NotWithheld None withheld_is.0)
      (ap (λ s. with_unit (table_meaning t) k (shown_state s)) (state_is t k i withheld_placed Withheld withheld_row))
      (λ x. restated_exact (used t.materials.now) (row_in t.units.now i) Withheld Standing withheld_holds standing_holds withheld_row (row_exact t k i withheld_placed x))

  pub clear_accepted : Accepted (clear_edit k) t (with_units t (set t.units.now i (row_of free)))
  clear_accepted =
      accepted t k i withheld_placed (clear_edit k) (row_of free) (passed _ NotWithheld None withheld_is.0) refl (λ x. refl)
