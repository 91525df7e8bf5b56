-- What a book of rows tells of a number: what the number's row holds.
use Rattle.std.proofs.Common.{◌≡◌, ℕ, ◌-◌, ◌<◌, true, cond, List, [], map, length, get_or, take, Some, None, Option, sym, refl, ap, ◌∙◌, inl, inr, arith, length-take, slice_index}
use Rattle.std.specs.Option.{option_map, option_and_then}
use Rattle.std.proofs.lemmas.List.{get_or-map, get_or-take}
use Rattle.std.proofs.lemmas.Option.{slice_get_cases}
use Rattle.std.proofs.lemmas.Bool.{cond-true, cond-false, cases_Bool}
use Rattle.book.specs.declared.books.Side.{Side}
use Rattle.book.specs.declared.books.State.TheVariants.{Free}
use Rattle.book.specs.Meaning.{free, material_count}
use Rattle.book.specs.Declined.{inside, is_standing}
use Rattle.book.specs.Asked.{where_inside, plain, wanted_at, bought_at, stands_at, told_of, fitted_at, count_in, entry_in, list_on, entry_count_at, entry_at}
use Rattle.table.specs.declared.TableBook.{TableBook}
use Rattle.table.specs.declared.rows.UnitRow.{UnitRow}
use Rattle.table.specs.Rows.{most_rows, used, found, material_in, fitted_in, state_in}
use Rattle.table.specs.Tables.{table_meaning}
use Rattle.table.specs.WellFormed.{count_read, count_materials}
use Rattle.table.proofs.Places.{inside_bounds}

-- the rows that are used, as `g` reads them
abbrev pub read : {R X : Type 0} → (R → X) → List R → List X
read g rows = map g (take most_rows rows)

-- the row at a place that is in range
abbrev pub row_in : List UnitRow → ℕ → UnitRow
row_in rows i = get_or rows i (record { state = Free; inputs = []; outputs = [] })

-- how a question about number k is answered from what is read
abbrev pub asked : {X Y : Type 0} → List X → X → ℕ → (X → Option Y) → Option Y
asked xs none k f = cond (inside k (length xs)) (f (get_or xs (k - 1) none)) None

module _ {R X : Type 0} (g : R → X) (rows : List R) (k : ℕ) where
  -- a number that has a row is inside
  pub row_inside : inside k (length (read g rows)) ≡ inside k (used rows)
  row_inside = ap (inside k) (count_read g rows)

  -- what is read of a number that has a row is in that row
  pub row_read : (none : X) (e : R) → inside k (used rows) ≡ true → get_or (read g rows) (k - 1) none ≡ g (get_or rows (k - 1) e)
  row_read none e within =
      let b = inside_bounds k (used rows) within in
      let short : k - 1 < length (take most_rows rows) = simp length-take (omega arith) in
      get_or-map g (take most_rows rows) (k - 1) e none short
      ∙ ap g (get_or-take most_rows rows (k - 1) e (omega arith))

  -- so a question is answered from the row, or by absence; one that has an answer for each row likewise
  pub asked_row : {Y : Type 0} (none : X) (f : X → Option Y) → asked (read g rows) none k f ≡ option_and_then (λ r. f (g r)) (found k rows)
  asked_row none f = elim (cases_Bool (inside k (used rows))) [
    | inr out ↦
        cond-false _ _ _ (row_inside ∙ out) ∙ ap (option_and_then (λ r. f (g r))) (sym (cond-false _ _ _ out))
    | inl within ↦
        let b = inside_bounds k (used rows) within in
        elim ((slice_get_cases rows (k - 1)).1) [
          | inr past ↦ absurd (omega (arith, past.0))
          | inl here ↦
              cond-true _ _ _ (row_inside ∙ within)
              ∙ ap f (row_read none here.0 within ∙ ap g here.3)
              ∙ ap (option_and_then (λ r. f (g r))) (sym (cond-true _ _ _ within ∙ here.2))
        ]
  ]

  pub value_of_row : {Y : Type 0} (none : X) (f : X → Y) → asked (read g rows) none k (λ x. Some (f x)) ≡ option_map (λ r. f (g r)) (found k rows)
  value_of_row none f =
      asked_row none (λ x. Some (f x))
      ∙ elim (found k rows) as (λ o. option_and_then (λ r. Some (f (g r))) o ≡ option_map (λ r. f (g r)) o) [ None ↦ refl | Some r ↦ refl ]

-- a unit stands at number k of the table, in this row
abbrev pub Stands : TableBook → ℕ → UnitRow → Type 0
Stands t k row = option_map (fitted_in (material_count (table_meaning t))) (Some row) ≡ fitted_at k (table_meaning t)

-- what the table tells of number k, by the row that the number has
module _ (t : TableBook) (k : ℕ) where
  pub wanted_row : option_map (λ r. r.wanted) (found k t.materials.now) ≡ wanted_at k (table_meaning t)
  wanted_row = sym (value_of_row material_in t.materials.now k plain (λ m. m.wanted))

  pub bought_row : option_map (λ r. r.bought) (found k t.materials.now) ≡ bought_at k (table_meaning t)
  bought_row = sym (value_of_row material_in t.materials.now k plain (λ m. m.bought))

  pub stands_row : option_map (λ r. is_standing (state_in (used t.materials.now) r)) (found k t.units.now) ≡ stands_at k (table_meaning t)
  stands_row = sym (value_of_row (state_in (used t.materials.now)) t.units.now k free is_standing)

  pub fitted_row_at : option_and_then (λ r. told_of (state_in (material_count (table_meaning t)) r)) (found k t.units.now) ≡ fitted_at k (table_meaning t)
  fitted_row_at =
      rw count_materials (sym (asked_row (state_in (used t.materials.now)) t.units.now k free told_of))

  -- what is told of a standing unit's list, by the list that its row holds
  module _ (side : Side) (l : ℕ) (row : UnitRow) (list : List ℕ) (known : l ≡ material_count (table_meaning t)) (held : list ≡ list_on side (fitted_in l row)) (told : Stands t k row) where
    list_told : list ≡ list_on side (fitted_in (material_count (table_meaning t)) row)
    list_told = held ∙ ap (λ n. list_on side (fitted_in n row)) known

    pub count_told : Some (length list) ≡ entry_count_at k side (table_meaning t)
    count_told = ap (λ xs. Some (length xs)) list_told ∙ ap (count_in (list_on side)) told

    pub entry_told : (place : ℕ) → where_inside place (length list) (slice_index list (place - 1)) ≡ entry_at k side place (table_meaning t)
    entry_told place =
        ap (λ xs. where_inside place (length xs) (slice_index xs (place - 1))) list_told
        ∙ ap (entry_in (list_on side) place) told
