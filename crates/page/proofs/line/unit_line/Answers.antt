-- A unit's line, field by field; the two lists were read by a reader of their own.
use Rattle.std.proofs.Common.{◌≡◌, ◌<◌, cond, eqb, [], ◌∷◌, length, get_or, IfOk, arith}
use Rattle.page.specs.Readers.{FieldTold, NumberTold, LineTold}
use Rattle.page.specs.Rules.{letter}
use Rattle.page.proofs.Reading.{Split, kept_value, at_exit, field_exit, told_last, whole_line, length_rest, letter_rest, number_right}
use Rattle.page.proofs.UnitLine.{state, number_wrong, inputs_wrong, outputs_wrong, end_wrong, line_right}
use Rattle.page.proofs.line.unit_line.Goals as goal

pub returns-in_err-at_column : goal.returns-in_err-at_column
returns-in_err-at_column c =
    let line = c.args.line.now in
    let k = c.args.number in
    let first = get_or line 0 0 ∷ [] in
    let shown = c.split_at.result.0.now in
    let r = kept_value (FieldTold (letter state) first) 1 c.highest_named.result c.in_ok-highest.highest c.in_ok-highest.ensures c.highest_named.ensures.told in
    field_exit (NumberTold k k shown) _ line 2 c.running_in.result c.in_err-at_column.field-0.0 c.from_residual-in_err-at_column.result
    c.in_err-at_column.ensures c.running_in.ensures c.from_residual-in_err-at_column.ensures.1
    (λ f n. number_wrong c.args.materials k (letter_rest line (omega (arith, c.requires))) r (record { front = c.split_at.ensures.front; back = c.split_at.ensures.back }) n)

pub returns-in_err-list_in : goal.returns-in_err-list_in
returns-in_err-list_in c =
    let line = c.args.line.now in
    let l = c.args.materials in
    let k = c.args.number in
    let first = get_or line 0 0 ∷ [] in
    let shown = c.split_at.result.0.now in
    let highest = c.in_ok-highest.highest in
    let r = kept_value (FieldTold (letter state) first) 1 c.highest_named.result highest c.in_ok-highest.ensures c.highest_named.ensures.told in
    let named = kept_value (λ x. IfOk x (λ h. h ≡ cond (eqb (get_or line 0 0) 45) 0 l)) 1 c.highest_named.result highest c.in_ok-highest.ensures c.highest_named.ensures.highest in
    let s = number_right k k shown c.in_ok-at_column.field-0 (kept_value (NumberTold k k shown) 2 c.running_in.result c.in_ok-at_column.field-0 c.in_ok-at_column.ensures c.running_in.ensures) in
    at_exit (LineTold _ line) c.from_residual-in_err-list_in.result c.in_err-list_in.field-0.0 c.from_residual-in_err-list_in.ensures.1
    (whole_line _ line _
    (inputs_wrong l k (letter_rest line (omega (arith, c.requires))) r (record { front = c.split_at.ensures.front; back = c.split_at.ensures.back }) s highest named
    (record { front = c.split_at-2.ensures.front; back = c.split_at-2.ensures.back }) _ c.in_err-list_in.ensures))

pub returns-in_err-list_in-2 : goal.returns-in_err-list_in-2
returns-in_err-list_in-2 c =
    let line = c.args.line.now in
    let l = c.args.materials in
    let k = c.args.number in
    let first = get_or line 0 0 ∷ [] in
    let shown = c.split_at.result.0.now in
    let highest = c.in_ok-highest.highest in
    let r = kept_value (FieldTold (letter state) first) 1 c.highest_named.result highest c.in_ok-highest.ensures c.highest_named.ensures.told in
    let named = kept_value (λ x. IfOk x (λ h. h ≡ cond (eqb (get_or line 0 0) 45) 0 l)) 1 c.highest_named.result highest c.in_ok-highest.ensures c.highest_named.ensures.highest in
    let s = number_right k k shown c.in_ok-at_column.field-0 (kept_value (NumberTold k k shown) 2 c.running_in.result c.in_ok-at_column.field-0 c.in_ok-at_column.ensures c.running_in.ensures) in
    at_exit (LineTold _ line) c.from_residual-in_err-list_in-2.result c.in_err-list_in-2.field-0.0 c.from_residual-in_err-list_in-2.ensures.1
    (whole_line _ line _
    (outputs_wrong l k (letter_rest line (omega (arith, c.requires))) r (record { front = c.split_at.ensures.front; back = c.split_at.ensures.back }) s highest named
    (record { front = c.split_at-2.ensures.front; back = c.split_at-2.ensures.back }) c.in_ok-list_in.ensures
    (record { front = c.split_at-3.ensures.front; back = c.split_at-3.ensures.back }) _ c.in_err-list_in-2.ensures))

pub returns : goal.returns
returns c =
    let line = c.args.line.now in
    let l = c.args.materials in
    let k = c.args.number in
    let first = get_or line 0 0 ∷ [] in
    let shown = c.split_at.result.0.now in
    let last = c.split_at-3.result.1.now in
    let highest = c.in_ok-highest.highest in
    let r = kept_value (FieldTold (letter state) first) 1 c.highest_named.result highest c.in_ok-highest.ensures c.highest_named.ensures.told in
    let named = kept_value (λ x. IfOk x (λ h. h ≡ cond (eqb (get_or line 0 0) 45) 0 l)) 1 c.highest_named.result highest c.in_ok-highest.ensures c.highest_named.ensures.highest in
    let s = number_right k k shown c.in_ok-at_column.field-0 (kept_value (NumberTold k k shown) 2 c.running_in.result c.in_ok-at_column.field-0 c.in_ok-at_column.ensures c.running_in.ensures) in
    let a = letter_rest line (omega (arith, c.requires)) in
    let b : Split 5 _ shown _ = record { front = c.split_at.ensures.front; back = c.split_at.ensures.back } in
    let d : Split 40 _ _ _ = record { front = c.split_at-2.ensures.front; back = c.split_at-2.ensures.back } in
    let e : Split 40 _ _ last = record { front = c.split_at-3.ensures.front; back = c.split_at-3.ensures.back } in
    let some : 0 < length last = omega (arith, c.requires, length_rest a, length_rest b, length_rest d, length_rest e) in
    told_last _ line 87 (letter (10 ∷ [])) (get_or last 0 0 ∷ []) c.newline_in.result c.at_column-3.result c.at_column-3.ensures c.newline_in.ensures
    (line_right l k a r b s highest named d c.in_ok-list_in.ensures e c.in_ok-list_in-2.ensures some)
    (end_wrong l k a r b s highest named d c.in_ok-list_in.ensures e c.in_ok-list_in-2.ensures some)
