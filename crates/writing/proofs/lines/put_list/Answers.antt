-- Each turn puts the next field behind those that are there.
use Rattle.std.proofs.Common.{◌-◌, ◌++◌, take, ap, ◌∙◌, arith}
use Rattle.book.specs.Asked.{entry_at}
use Rattle.page.proofs.Lists.{listed}
use Rattle.writing.specs.Told.{told_list, field_bytes}
use Rattle.writing.proofs.Answered.{asked_again, entry_told, few_told}
use Rattle.writing.proofs.Fields.{listed_step, listed_all}
use Rattle.writing.proofs.Putting.{put_next, put_whole}
use Rattle.writing.proofs.lines.put_list.Goals as goal

pub loop-place-preserved : goal.loop-place-preserved
loop-place-preserved g c =
    let same = c.loop-place.invariant.same in
    let place = c.loop-place.place in
    let m = g.B.Book.meaning c.args.book.now in
    let xs = told_list c.args.side c.args.unit m in
    let told = asked_again (λ b. entry_at c.args.unit c.args.side place (g.B.Book.meaning b)) c.entry-entry.ensures.answer same ∙ entry_told c.args.side place c.args.unit m (omega arith) in
    let step = ap (λ t. listed (place - 1) (take (place - 1) xs) ++ t) (c.put_field.ensures ∙ ap field_bytes told) ∙ listed_step place xs (omega arith) in
    record {
      same = c.entry-entry.ensures.same ∙ same;
      put = put_next c.put_field.new.field c.loop-place.invariant.put c.from-start.ensures (omega arith) (omega arith) c.put_field.auto.field step;
    }

pub returns-clause-put : goal.returns-clause-put
returns-clause-put g c =
    let m = g.B.Book.meaning c.args.book.now in
    let few = few_told m c.args.side c.args.unit (g.B.Book.laws.well_formed c.args.book.now) in
    put_whole 8 c.loop-place.invariant.put (omega arith) (omega arith) ∙ listed_all (told_list c.args.side c.args.unit m) few
