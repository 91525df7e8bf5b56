-- Each answer tells of the line with its number.
use Rattle.std.proofs.Common.{rules}
use Rattle.page.proofs.Checking.{each_tells}
use Rattle.page.proofs.counts.Counts.check_units.Goals as goal

pub returns : goal.returns
returns c = search (rules, each_tells)
