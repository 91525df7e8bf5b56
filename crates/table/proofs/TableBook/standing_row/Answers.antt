-- The state in the row of the unit tells it.
use Rattle.std.proofs.Common.{◌∙◌, rules}
use Rattle.table.proofs.Seen.{fitted_row_at}
use Rattle.table.proofs.TableBook.standing_row.Goals as goal

pub returns : goal.returns
returns c = (search rules) ∙ fitted_row_at c.args.self.now c.args.unit
