-- The row of a standing unit is all that is told of it.
use Rattle.std.proofs.Common.{subst}
use Rattle.table.proofs.Seen.{Stands, count_told}
use Rattle.table.proofs.questions.TableBookBook.entry_count.Goals as goal

pub returns-clause-answer : goal.returns-clause-answer
returns-clause-answer c =
    let row = c.in_ok-row.row.now in
    let stands = subst (λ t. Stands t c.args.unit row) c.materials-materials.ensures.same c.in_ok-row.ensures in
    count_told c.args.self.now c.args.unit c.args.side c.materials-materials.result row c.list.result.now
    c.materials-materials.ensures.answer c.list.ensures.list stands
