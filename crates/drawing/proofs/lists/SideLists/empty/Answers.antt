-- No place holds anything.
use Rattle.drawing.proofs.Pushing.{walkable_none, lists_none}
use Rattle.drawing.proofs.lists.SideLists.empty.Goals as goal

pub invariant_of-result : goal.invariant_of-result
invariant_of-result c = record { walkable = walkable_none }

pub returns : goal.returns
returns c = lists_none 1025 8200
