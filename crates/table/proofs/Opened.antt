-- The rows of a table that is opened: what they mean, and what is known of them once the table is gone.
use Rattle.std.proofs.Common.{◌≡◌, ℕ, zero, suc, ◌<◌, ◌≤◌, List, ◌∷◌, ◌++◌, map, length, take, drop, replicate, Ok, Err, Result, sym, refl, ap, ◌∙◌, subst, ⊎_elim, arith, length-append, length-drop, length-take}
use Rattle.std.proofs.lemmas.List.{append-nil, drop_all, length-replicate, take_all, take_at}
use Rattle.std.proofs.lemmas.Slice.{drop-append-drop}
use Rattle.std.proofs.lemmas.Bool.{cases_lt}
use Rattle.book.specs.declared.Refusal.{Refusal}
use Rattle.book.specs.declared.books.Class.{Class}
use Rattle.book.specs.Meaning.{Meaning, free}
use Rattle.book.specs.Asked.{plain}
use Rattle.book.specs.Edits.{Edit, Edited}
use Rattle.table.specs.declared.rows.UnitRow.{UnitRow}
use Rattle.table.specs.declared.TableBook.{TableBook}
use Rattle.table.specs.Rows.{most_rows, used, material_in, state_in, materials_in, units_in, of_rows, row_of, Exact, RowsKept, fresh, plain_row, new_book}
use Rattle.table.specs.Tables.{table_meaning, TableKept}
use Rattle.table.proofs.Filled.{drop_used, fill_end}

-- rows of a table that is opened: they are used as before, and each is read as one row is
module _ {R : Type 0} (row : R) (rows : List R) where
  -- they are made by a row that is written over the first of them
  pub fresh_made : (n : ℕ) (front : List R) → n ≡ used rows → front ≡ replicate (length (take n rows)) row → front ++ drop n rows ≡ fresh row rows
  fresh_made n front count filled =
      let size : length (take n rows) ≡ n = simp length-take (omega arith) in
      fill_end n row (front ++ drop n rows) rows (ap (λ xs. xs ++ drop n rows) (filled ∙ ap (λ m. replicate m row) size)) count

  -- the rows that are used are all alike, and the others stay
  take_fresh : take most_rows (fresh row rows) ≡ replicate (used rows) row
  take_fresh =
      let size = length-replicate (used rows) row in
      ⊎_elim
      (λ (few : length rows < most_rows).
      ap (λ rest. take most_rows (replicate (used rows) row ++ rest)) (drop_all most_rows rows (omega arith))
      ∙ ap (take most_rows) (append-nil (replicate (used rows) row))
      ∙ take_all most_rows (replicate (used rows) row) (omega arith))
      (λ (many : most_rows ≤ length rows). take_at (replicate (used rows) row) (drop most_rows rows) most_rows (omega arith))
      (cases_lt (length rows) most_rows)

  rows_fresh : RowsKept rows (fresh row rows)
  rows_fresh = record {
    size = simp (length-append, length-replicate, length-drop) (omega arith);
    beyond =
        ap (λ rest. drop most_rows (replicate (used rows) row ++ rest)) (sym (drop_used rows))
        ∙ drop-append-drop (used rows) rows (replicate (used rows) row) most_rows (omega arith) (length-replicate (used rows) row);
  }

-- what is read of rows that are all alike
map_replicate : {X Y : Type 0} (g : X → Y) (n : ℕ) (x : X) → map g (replicate n x) ≡ replicate n (g x)
map_replicate g zero x = refl
map_replicate g (suc n) x = ap (λ ys. g x ∷ ys) (map_replicate g n x)

materials_fresh : (rows : List Class) → materials_in (fresh plain_row rows) ≡ replicate (used rows) plain
materials_fresh rows = ap (map material_in) (take_fresh plain_row rows) ∙ map_replicate material_in (used rows) plain_row

units_fresh : (l : ℕ) (rows : List UnitRow) → units_in l (fresh (row_of free) rows) ≡ replicate (used rows) free
units_fresh l rows = ap (map (state_in l)) (take_fresh (row_of free) rows) ∙ map_replicate (state_in l) (used rows) (row_of free)

-- such rows hold exactly what they mean, and that is a new book
pub exact_fresh : (l : ℕ) (rows : List UnitRow) → Exact l (fresh (row_of free) rows)
exact_fresh l rows = take_fresh (row_of free) rows ∙ sym (ap (map row_of) (units_fresh l rows) ∙ map_replicate row_of (used rows) free)

pub of_rows_fresh : (ms : List Class) (us : List UnitRow) → of_rows (fresh plain_row ms) (fresh (row_of free) us) ≡ new_book (used ms) (used us)
of_rows_fresh ms us =
    ap (λ xs. record { materials = xs; units = units_in (used (fresh plain_row ms)) (fresh (row_of free) us) }) (materials_fresh ms)
    ∙ ap (λ xs. record { materials = replicate (used ms) plain; units = xs }) (units_fresh (used (fresh plain_row ms)) us)

-- what is known of lent rows once a table that was made over them is gone: `opened` is the table as it was made, `after`
-- as it was left, and ms and us are the rows, which the table's references led to
module _ (opened after : TableBook) (ms : List Class) (us : List UnitRow) (there_ms : ms ≡ after.materials.now) (there_us : us ≡ after.units.now) where
  meant_after : of_rows ms us ≡ table_meaning after
  meant_after = ap (λ rows. of_rows rows us) there_ms ∙ ap (of_rows after.materials.now) there_us

  -- what an edit told of the table is true of the rows
  pub left_told : (start : Meaning) (edit : Meaning → Edit) (answer : Result (Unit {0}) Refusal) → table_meaning opened ≡ start → Edited table_meaning edit opened after answer → Edited (λ m. m) edit start (of_rows ms us) answer
  left_told start edit (Ok x) meant told =
      subst (λ m. Edited (λ m. m) edit m (of_rows ms us) (Ok x)) meant (told.0, meant_after ∙ told.1)
  left_told start edit (Err e) meant told =
      subst (λ m. Edited (λ m. m) edit m (of_rows ms us) (Err e)) meant (told.0, meant_after ∙ ap table_meaning told.1)

  pub left_exact : Exact (used opened.materials.now) opened.units.now → TableKept opened after → Exact (used ms) us
  left_exact exact kept =
      subst (λ rows. Exact (used rows) us) (sym there_ms)
      (subst (Exact (used after.materials.now)) (sym there_us) (kept.exact exact))

-- rows that were made anew are kept from before they were
kept_since : {R : Type 0} (row : R) (start made left rows : List R) → made ≡ fresh row start → rows ≡ left → RowsKept made left → RowsKept start rows
kept_since row start made left rows is there kept = record {
  size = ap length there ∙ kept.size ∙ ap length is ∙ (rows_fresh row start).size;
  beyond = ap (drop most_rows) there ∙ kept.beyond ∙ ap (drop most_rows) is ∙ (rows_fresh row start).beyond;
}

pub left_materials : (opened after : TableBook) (start ms : List Class) → ms ≡ after.materials.now → opened.materials.now ≡ fresh plain_row start → TableKept opened after → RowsKept start ms
left_materials opened after start ms there is kept =
    kept_since plain_row start opened.materials.now after.materials.now ms is there kept.materials_kept

pub left_units : (opened after : TableBook) (start us : List UnitRow) → us ≡ after.units.now → opened.units.now ≡ fresh (row_of free) start → TableKept opened after → RowsKept start us
left_units opened after start us there is kept =
    kept_since (row_of free) start opened.units.now after.units.now us is there kept.units_kept
