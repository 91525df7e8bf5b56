-- The state in the row of the unit tells it.
use Rattle.std.proofs.Common.{◌∙◌, rules}
use Rattle.table.proofs.Seen.{stands_row}
use Rattle.table.proofs.questions.TableBookBook.stands.Goals as goal

pub returns-clause-answer : goal.returns-clause-answer
returns-clause-answer c = (search rules) ∙ stands_row c.args.self.now c.args.unit
