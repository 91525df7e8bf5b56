-- A material's line, split into its letter, its number and its end.
use Rattle.std.proofs.Common.{ℕ, ◌<◌, List, [], ◌∷◌, length, get_or, drop, arith, rules}
use Rattle.page.specs.Faults.{AllRight}
use Rattle.page.specs.Layout.{material}
use Rattle.page.specs.Readers.{FieldTold, NumberTold, WrongFrom}
use Rattle.page.specs.Rules.{Right, letter, letter_field, number, number_field, newline_field, fields}
use Rattle.page.proofs.Reading.{Split, kept_value, field_exit, told_last, right_more, wrong_more, wrong_now, length_rest, letter_rest, letter_split, number_right}
use Rattle.page.proofs.Scan.{all_none}
use Rattle.page.proofs.line.material_line.Goals as goal

abbrev class : List ℕ
class = 45 ∷ (80 ∷ (82 ∷ (66 ∷ [])))

-- from the left: a letter, the running number, a newline
module _ (k : ℕ) {line first middle shown last : List ℕ} (a : Split 1 line first middle) (b : Split 5 middle shown last) where
  number_wrong : Right (letter class) first → (Right (number k k) shown → ⊥) → WrongFrom 1 (fields 0 (material k) line) line 2
  number_wrong r n = wrong_more (letter_field class) (number_field k k ∷ newline_field ∷ []) 1 2 a r (wrong_now (number_field k k) (newline_field ∷ []) 2 b n)

  end_wrong : 0 < length last → Right (letter class) first → Right (number k k) shown → (Right (letter (10 ∷ [])) (get_or last 0 0 ∷ []) → ⊥) → WrongFrom 1 (fields 0 (material k) line) line 7
  end_wrong some r s n =
      wrong_more (letter_field class) (number_field k k ∷ newline_field ∷ []) 1 7 a r
      (wrong_more (number_field k k) (newline_field ∷ []) 2 7 b s (wrong_now newline_field [] 7 (letter_split last some) n))

  line_right : 0 < length last → Right (letter class) first → Right (number k k) shown → Right (letter (10 ∷ [])) (get_or last 0 0 ∷ []) → AllRight (fields 0 (material k) line) line
  line_right some r s t =
      right_more (letter_field class) (number_field k k ∷ newline_field ∷ []) a r
      (right_more (number_field k k) (newline_field ∷ []) b s (right_more newline_field [] (letter_split last some) t (all_none (drop 1 last))))

-- the exit of a wrong letter comes first
pub returns-in_err-at_column : goal.returns-in_err-at_column
returns-in_err-at_column c = search rules

pub returns-in_err-at_column-2 : goal.returns-in_err-at_column-2
returns-in_err-at_column-2 c =
    let line = c.args.line.now in
    let k = c.args.number in
    let first = get_or line 0 0 ∷ [] in
    let shown = c.split_at.result.0.now in
    let r = kept_value (FieldTold (letter class) first) 1 c.class_in.result c.in_ok-at_column.field-0 c.in_ok-at_column.ensures c.class_in.ensures in
    field_exit (NumberTold k k shown) _ _ 2 c.running_in.result c.in_err-at_column-2.field-0.0 c.from_residual-in_err-at_column-2.result
    c.in_err-at_column-2.ensures c.running_in.ensures c.from_residual-in_err-at_column-2.ensures.1
    (λ f n. number_wrong k (letter_rest line (omega (arith, c.requires))) (record { front = c.split_at.ensures.front; back = c.split_at.ensures.back }) r n)

pub returns : goal.returns
returns c =
    let line = c.args.line.now in
    let k = c.args.number in
    let first = get_or line 0 0 ∷ [] in
    let shown = c.split_at.result.0.now in
    let last = c.split_at.result.1.now in
    let r = kept_value (FieldTold (letter class) first) 1 c.class_in.result c.in_ok-at_column.field-0 c.in_ok-at_column.ensures c.class_in.ensures in
    let s = number_right k k shown c.in_ok-at_column-2.field-0 (kept_value (NumberTold k k shown) 2 c.running_in.result c.in_ok-at_column-2.field-0 c.in_ok-at_column-2.ensures c.running_in.ensures) in
    let a = letter_rest line (omega (arith, c.requires)) in
    let b : Split 5 _ shown last = record { front = c.split_at.ensures.front; back = c.split_at.ensures.back } in
    let some : 0 < length last = omega (arith, c.requires, length_rest a, length_rest b) in
    told_last _ line 7 (letter (10 ∷ [])) (get_or last 0 0 ∷ []) c.newline_in.result c.at_column-3.result c.at_column-3.ensures c.newline_in.ensures
    (line_right k a b some r s)
    (end_wrong k a b some r s)
