use Rattle.std.proofs.Common.{◌+◌, ◌≤◌}
use Rattle.drawing.specs.Network.{taken_down}
use Rattle.drawing.specs.Reduction.{Enlisted}
use Rattle.drawing.proofs.reduction.enlist.Given as goal

abbrev pub invariant-loop-unit : goal.invariant-loop-unit
invariant-loop-unit l =
    Enlisted (taken_down l.network) l.reduced.live l.reduced.makers l.unit × (l.unit ≤ l.network.units + 1)
