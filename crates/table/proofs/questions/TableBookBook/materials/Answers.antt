-- As many materials as rows are used.
use Rattle.std.proofs.Common.{sym, ◌∙◌}
use Rattle.table.specs.WellFormed.{count_materials}
use Rattle.table.proofs.questions.TableBookBook.materials.Goals as goal

pub returns-clause-answer : goal.returns-clause-answer
returns-clause-answer c = c.used.ensures ∙ sym (count_materials c.args.self.now.materials.now)
