-- The row of the material tells it.
use Rattle.std.proofs.Common.{◌∙◌, rules}
use Rattle.table.proofs.Seen.{bought_row}
use Rattle.table.proofs.questions.TableBookBook.bought.Goals as goal

pub returns-clause-answer : goal.returns-clause-answer
returns-clause-answer c = (search rules) ∙ bought_row c.args.self.now c.args.material
