-- A letter that is that of no state is read as that of a free number.
use Rattle.std.proofs.Common.{◌∙◌}
use Rattle.pagebook.proofs.Lettered.{state_read}
use Rattle.pagebook.proofs.lines.state_told.Goals as goal

pub returns : goal.returns
returns c f = c.unwrap_or.ensures ∙ state_read c.args.letter c.of_letter.result f c.of_letter.ensures
