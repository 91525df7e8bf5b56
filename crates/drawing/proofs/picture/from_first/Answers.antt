use Rattle.std.proofs.Common.{drop, ◌∙◌, arith}
use Rattle.std.proofs.lemmas.List.{take_all, length-drop}
use Rattle.drawing.proofs.picture.from_first.Goals as goal

pub returns : goal.returns
returns c = c.copy_from_slice.ensures.after ∙ take_all 1024 (drop 1 c.args.ranks.now) (omega (arith, length-drop 1 c.args.ranks.now))
