-- What one written row changes: the number that it is the row of, and nothing else.
use Rattle.std.proofs.Common.{◌≡◌, ℕ, ◌<◌, List, [], map, length, get_or, take, set, sym, refl, ap, ◌∙◌, arith, length-set, length-take}
use Rattle.std.proofs.Math.Seq.{take-set-lt}
use Rattle.std.proofs.lemmas.List.{length-map, map-set, drop-set-lt, get_or-map, get_or-take}
use Rattle.book.specs.declared.books.State.{State}
use Rattle.book.specs.declared.books.State.TheVariants.{Free, Standing, Withheld}
use Rattle.book.specs.Meaning.{Fitted, free}
use Rattle.table.specs.declared.rows.UnitRow.{UnitRow}
use Rattle.table.specs.Rows.{most_rows, fitted_in, in_state, state_in, fitted_row, row_of, Exact, RowsKept}
use Rattle.table.proofs.Seen.{read, row_in}

module _ {R : Type 0} (rows : List R) (i : ℕ) (few : i < most_rows) (row : R) where
  -- the rows that are not used stay
  pub rows_written : RowsKept rows (set rows i row)
  rows_written = record { size = length-set rows i row; beyond = drop-set-lt most_rows rows i row few }

  -- a written row changes exactly what is read of it
  pub read_written : {X : Type 0} (g : R → X) → read g (set rows i row) ≡ set (read g rows) i (g row)
  read_written g = ap (map g) (take-set-lt most_rows rows i row few) ∙ map-set g (take most_rows rows) i row

-- the row of what a row means, where it is the row itself
abbrev pub ExactRow : ℕ → UnitRow → Type 0
ExactRow l row = row ≡ row_of (state_in l row)

-- rows that are exact stay so where an exact row is written, and each of them is exact
module _ (l : ℕ) (rows : List UnitRow) (i : ℕ) (few : i < most_rows) (e : Exact l rows) where
  pub exact_written : (row : UnitRow) → ExactRow l row → Exact l (set rows i row)
  exact_written row is =
      take-set-lt most_rows rows i row few
      ∙ ap (λ xs. set xs i row) e
      ∙ ap (λ r. set (map row_of (read (state_in l) rows)) i r) is
      ∙ sym (map-set row_of (read (state_in l) rows) i (state_in l row))
      ∙ sym (ap (map row_of) (read_written rows i few row (state_in l)))

  pub exact_at : i < length rows → ExactRow l (row_in rows i)
  exact_at here =
      let d : UnitRow = record { state = Free; inputs = []; outputs = [] } in
      let used : i < length (take most_rows rows) = simp length-take (omega arith) in
      let meant : i < length (read (state_in l) rows) = simp length-map (omega arith) in
      sym (get_or-take most_rows rows i d few)
      ∙ ap (λ xs. get_or xs i d) e
      ∙ get_or-map row_of (read (state_in l) rows) i free d meant
      ∙ ap row_of (get_or-map (state_in l) (take most_rows rows) i d free used)
      ∙ ap (λ r. row_of (state_in l r)) (get_or-take most_rows rows i d few)

-- a row with another state and the same lists
abbrev pub restated : UnitRow → State → UnitRow
restated r s = record { state = s; inputs = r.inputs; outputs = r.outputs }

-- a state in which a row holds the lists that it means
abbrev Holding : State → Type 0
Holding s = (f : Fitted) → row_of (in_state s f) ≡ fitted_row s f

pub standing_holds : Holding Standing
standing_holds f = refl

pub withheld_holds : Holding Withheld
withheld_holds f = refl

-- an exact row stays so from one such state to another
pub restated_exact : (l : ℕ) (row : UnitRow) (s t : State) → Holding s → Holding t → row.state ≡ s → ExactRow l row → ExactRow l (restated row t)
restated_exact l row s t of_s of_t is e =
    let f = fitted_in l row in
    let whole : row ≡ fitted_row s f = e ∙ ap (λ u. row_of (in_state u f)) is ∙ of_s f in
    ap (λ r. restated r t) whole ∙ sym (of_t f)
