-- The first number that may not come next ends the front.
use Rattle.std.proofs.Common.{inl, inr}
use Rattle.table.proofs.Climbs.{passed_stops}
use Rattle.table.proofs.lists.front.Goals as goal
use Rattle.table.proofs.lists.front.Goals.{then-number-last-via-then-number-last, then-number-last-via-else-number-last+then-number-materials}

pub returns-then-number-last : goal.returns-then-number-last
returns-then-number-last c =
    passed_stops _ _ _ _ c.loop-i.invariant c.loop-i-test.true
    (elim c.then-number-last.branch [
      | then-number-last-via-then-number-last w ↦ inl w.if-number-last.true
      | then-number-last-via-else-number-last+then-number-materials w ↦ inr w.if-number-materials.true
    ])
