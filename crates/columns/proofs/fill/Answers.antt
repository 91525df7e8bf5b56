-- The last digit is written first, and each turn writes the byte to its left.
use Rattle.std.proofs.Common.{◌-◌, length, ◌∙◌, arith, length-set}
use Rattle.columns.proofs.Filling.{some_column, lead_last, filled_first, filled_more, filled_all}
use Rattle.columns.proofs.fill.Goals as goal

pub overflow_sub-last : goal.overflow_sub-last
overflow_sub-last c = some_column (length c.args.field.now) c.args.number c.requires

pub bounds-field-last : goal.bounds-field-last
bounds-field-last c = omega (arith, some_column (length c.args.field.now) c.args.number c.requires)

pub loop-place-init : goal.loop-place-init
loop-place-init c = (omega arith, filled_first c.args.field.now c.args.number c.digit.result c.requires c.digit.ensures)

pub loop-place-preserved : goal.loop-place-preserved
loop-place-preserved c =
    let i = c.loop-place.place in
    let rest = c.loop-place.rest in (
      omega arith,
      filled_more c.loop-place.field i rest c.args.number c.byte_for.result (omega arith)
          (omega (arith, length-set c.args.field.now (length c.args.field.now - 1) c.digit.result))
          c.loop-place.invariant.1
          (lead_last i rest c.byte_for.result (omega arith) (omega arith) c.byte_for.ensures.space c.byte_for.ensures.digit),
    )

pub returns : goal.returns
returns c =
    let field = c.args.field.now in
    filled_all c.loop-place.field (length field) c.loop-place.place c.loop-place.rest c.args.number c.requires
    (c.loop-place.auto.field ∙ length-set field (length field - 1) c.digit.result) (omega arith) c.loop-place.invariant.1
