-- A letter that is that of no class is read as that of a plain material.
use Rattle.std.proofs.Common.{◌∙◌}
use Rattle.pagebook.proofs.Lettered.{class_read}
use Rattle.pagebook.proofs.lines.class_told.Goals as goal

pub returns : goal.returns
returns c = c.unwrap_or.ensures ∙ class_read c.args.letter c.of_letter.result c.of_letter.ensures
