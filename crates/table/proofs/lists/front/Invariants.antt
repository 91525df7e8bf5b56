use Rattle.table.proofs.Climbs.{Passed}
use Rattle.table.proofs.lists.front.Given as goal

abbrev pub invariant-loop-i : goal.invariant-loop-i
invariant-loop-i l = Passed l.materials l.numbers l.last l.i
