-- Each turn adds one field that is right, or ends at the first that is wrong.
use Rattle.std.proofs.Common.{◌+◌, ◌*◌, sym, ap, ◌∙◌, subst}
use Rattle.page.specs.Layout.{number_width}
use Rattle.page.specs.Readers.{EntryTold, WrongFrom}
use Rattle.page.proofs.Entries.{entry_again, entry_fault, all_read}
use Rattle.page.proofs.Reading.{kept_value, list_exit}
use Rattle.page.proofs.line.list_in.Goals as goal

pub returns-in_err-above : goal.returns-in_err-above
returns-in_err-above c =
    let list = c.args.list.now in
    let step = c.in-Some.ensures.steps in
    let begins = c.field_column-column.ensures ∙ ap (λ i. c.args.first + number_width * i) step.1 in
    list_exit (EntryTold c.args.highest c.loop-i.above c.in-Some.field.now) c.args.first _ list _ c.entry_in.result c.in_err-above.field-0.0 c.from_residual.result
    c.in_err-above.ensures c.entry_in.ensures c.from_residual.ensures.1
    (λ f t. subst (WrongFrom c.args.first _ list) (sym begins)
    (entry_fault c.args.highest list _ c.loop-i.above _ _ c.in-Some.field.now _ c.requires.whole c.loop-i.invariant step.0.1.0 step.0.1.1 c.args.first f t))

pub loop-i-preserved : goal.loop-i-preserved
loop-i-preserved c =
    let step = c.in-Some.ensures.steps in
    let kept = kept_value (EntryTold c.args.highest c.loop-i.above c.in-Some.field.now) _ c.entry_in.result c.in_ok-above.above c.in_ok-above.ensures c.entry_in.ensures in
    rw (step.2, step.0.0)
    (entry_again c.args.highest c.args.list.now _ c.loop-i.above _ _ c.in-Some.field.now _ c.requires.whole c.loop-i.invariant step.0.1.0 step.0.1.1 c.in_ok-above.above kept)

pub returns : goal.returns
returns c = all_read c.args.highest c.args.list.now _ _ _ _ c.requires.whole c.loop-i.invariant c.in-None.ensures.steps.0.1.0
