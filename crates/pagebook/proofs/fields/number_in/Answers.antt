-- The reader of columns tells what the field shows: the number, or that there is none.
use Rattle.std.proofs.Common.{sym}
use Rattle.pagebook.proofs.Shown.{shown_number, none_shown}
use Rattle.pagebook.proofs.fields.number_in.Goals as goal

pub returns-in-Number : goal.returns-in-Number
returns-in-Number c = sym (shown_number c.args.field.now c.in-Number.number c.requires c.in-Number.ensures.tells)

pub returns-in_default : goal.returns-in_default
returns-in_default c = sym (none_shown c.args.field.now c.requires (λ n shows. c.in_default.not-Number n (c.read.ensures.reads_back n shows)))
