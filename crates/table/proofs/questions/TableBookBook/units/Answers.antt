-- As many unit numbers as rows are used.
use Rattle.std.proofs.Common.{sym, ◌∙◌}
use Rattle.table.specs.Rows.{used}
use Rattle.table.specs.WellFormed.{count_units}
use Rattle.table.proofs.questions.TableBookBook.units.Goals as goal

pub returns-clause-answer : goal.returns-clause-answer
returns-clause-answer c = c.used.ensures ∙ sym (count_units (used c.args.self.now.materials.now) c.args.self.now.units.now)
