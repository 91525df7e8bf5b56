-- The row of a standing unit is all that is told of it.
use Rattle.std.proofs.Common.{◌≡◌, ◌∙◌, subst, arith, slice_get}
use Rattle.std.proofs.lemmas.Grind.{common_steps}
use Rattle.std.proofs.lemmas.Option.{gets}
use Rattle.table.proofs.Places.{numbered}
use Rattle.table.proofs.Seen.{Stands, entry_told}
use Rattle.table.proofs.questions.TableBookBook.entry.Goals as goal

pub returns-clause-answer : goal.returns-clause-answer
returns-clause-answer c =
    let list = c.list-list.result.now in
    let row = c.in_ok-row.row.now in
    let stands = subst (λ t. Stands t c.args.unit row) c.materials-materials.ensures.same c.in_ok-row.ensures in
    let index = c.in_ok-index.ensures in
    let got = c.get.ensures.lookup in
    let read : c.copied.result ≡ slice_get list c.in_ok-index.index = grind (arith, common_steps, gets) in
    read
    ∙ numbered list c.args.place c.in_ok-index.index index.0 index.1
    ∙ entry_told c.args.self.now c.args.unit c.args.side c.materials-materials.result row list
    c.materials-materials.ensures.answer c.list-list.ensures.list stands c.args.place
