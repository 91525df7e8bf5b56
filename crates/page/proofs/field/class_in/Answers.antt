-- The letter is that of a class, or of none.
use Rattle.page.proofs.FirstLetter.{class_told}
use Rattle.page.proofs.field.class_in.Goals as goal

pub returns : goal.returns
returns c = class_told c.args.letter c.of_letter.result _ c.ok_or.result c.of_letter.ensures c.ok_or.ensures.value
