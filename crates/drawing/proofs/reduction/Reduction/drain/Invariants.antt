use Rattle.std.proofs.Common.{◌+◌, ◌-◌, length}
use Rattle.queue.specs.Waiting.{waits}
use Rattle.drawing.specs.Network.{taken_down}
use Rattle.drawing.specs.Reduction.{zeros, Reducing}
use Rattle.drawing.proofs.reduction.Reduction.drain.Given as goal

abbrev pub invariant-loop-material : goal.invariant-loop-material
invariant-loop-material l =
    Reducing (taken_down l.network) l.self.reduced.live l.self.reduced.makers (waits l.self.waiting)

abbrev pub decreases-loop-material : goal.decreases-loop-material
decreases-loop-material l = length (waits l.self.waiting) + (length l.self.reduced.makers - zeros l.self.reduced.makers)
