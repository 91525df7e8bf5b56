use Rattle.std.proofs.Common.{◌≡◌, take, count_by}
use Rattle.structure.specs.Answers.{is_drawn}
use Rattle.sheet.proofs.marks.drawn_among.Given as goal

abbrev pub invariant-loop-mark : goal.invariant-loop-mark
invariant-loop-mark l = l.count ≡ count_by is_drawn (take l.mark-index l.marks)
