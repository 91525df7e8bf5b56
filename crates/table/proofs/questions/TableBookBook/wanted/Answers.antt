-- The row of the material tells it.
use Rattle.std.proofs.Common.{◌∙◌, rules}
use Rattle.table.proofs.Seen.{wanted_row}
use Rattle.table.proofs.questions.TableBookBook.wanted.Goals as goal

pub returns-clause-answer : goal.returns-clause-answer
returns-clause-answer c = (search rules) ∙ wanted_row c.args.self.now c.args.material
