-- The first line, split into its two numbers and its end.
use Rattle.std.proofs.Common.{◌≡◌, ℕ, ◌<◌, List, [], ◌∷◌, length, get_or, arith}
use Rattle.std.proofs.lemmas.Result.{IfOk-from_err}
use Rattle.page.specs.Layout.{counts}
use Rattle.page.specs.Readers.{FieldTold, NumberTold, WrongFrom}
use Rattle.page.specs.Rules.{Field, Right, letter, number, number_field, newline_field, fields}
use Rattle.page.proofs.Reading.{Split, kept_value, field_exit, wrong_more, wrong_now, letter_split, number_right}
use Rattle.page.proofs.line.counts_line.Goals as goal

abbrev count : Field
count = number_field 1 512

-- from the left: a count, a count, a newline
module _ {line first middle second last : List ℕ} (a : Split 5 line first middle) (b : Split 5 middle second last) where
  units_wrong : Right (number 1 512) first → (Right (number 1 512) second → ⊥) → WrongFrom 1 (fields 0 counts line) line 6
  units_wrong r n = wrong_more count (count ∷ newline_field ∷ []) 1 6 a r (wrong_now count (newline_field ∷ []) 6 b n)

  end_wrong : 0 < length last → Right (number 1 512) first → Right (number 1 512) second → (Right (letter (10 ∷ [])) (get_or last 0 0 ∷ []) → ⊥) → WrongFrom 1 (fields 0 counts line) line 11
  end_wrong some r s n =
      wrong_more count (count ∷ newline_field ∷ []) 1 11 a r
      (wrong_more count (newline_field ∷ []) 6 11 b s (wrong_now newline_field [] 11 (letter_split last some) n))

pub returns-in_err-units : goal.returns-in_err-units
returns-in_err-units c =
    let first = c.split_at.result.0.now in
    let second = c.split_at-2.result.0.now in
    let m = kept_value (NumberTold 1 512 first) 1 c.count_in.result c.in_ok-materials.materials c.in_ok-materials.ensures c.count_in.ensures in
    record {
      told = field_exit (NumberTold 1 512 second) _ _ 6 c.count_in-2.result c.in_err-units.field-0.0 c.from_residual-in_err-units.result
          c.in_err-units.ensures c.count_in-2.ensures c.from_residual-in_err-units.ensures.1
          (λ f n. units_wrong (record { front = c.split_at.ensures.front; back = c.split_at.ensures.back }) (record { front = c.split_at-2.ensures.front; back = c.split_at-2.ensures.back })
          (number_right 1 512 first c.in_ok-materials.materials m) n);
      counted = IfOk-from_err c.from_residual-in_err-units.result _ c.from_residual-in_err-units.ensures.0;
    }

pub returns-in_err-at_column : goal.returns-in_err-at_column
returns-in_err-at_column c =
    let first = c.split_at.result.0.now in
    let second = c.split_at-2.result.0.now in
    let last = c.split_at-2.result.1.now in
    let m = kept_value (NumberTold 1 512 first) 1 c.count_in.result c.in_ok-materials.materials c.in_ok-materials.ensures c.count_in.ensures in
    let u = kept_value (NumberTold 1 512 second) 6 c.count_in-2.result c.in_ok-units.units c.in_ok-units.ensures c.count_in-2.ensures in
    let one : length last ≡ 1 = omega (arith, c.requires, c.split_at.ensures.back_len, c.split_at-2.ensures.back_len) in
    record {
      told = field_exit (FieldTold (letter (10 ∷ [])) (get_or last 0 0 ∷ [])) _ _ 11 c.newline_in.result c.in_err-at_column.field-0.0 c.from_residual-in_err-at_column.result
          c.in_err-at_column.ensures c.newline_in.ensures c.from_residual-in_err-at_column.ensures.1
          (λ f n. end_wrong (record { front = c.split_at.ensures.front; back = c.split_at.ensures.back }) (record { front = c.split_at-2.ensures.front; back = c.split_at-2.ensures.back })
          (omega arith) (number_right 1 512 first c.in_ok-materials.materials m) (number_right 1 512 second c.in_ok-units.units u) n);
      counted = IfOk-from_err c.from_residual-in_err-at_column.result _ c.from_residual-in_err-at_column.ensures.0;
    }
