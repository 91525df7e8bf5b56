use Rattle.std.proofs.Common.{◌≡◌, ◌+◌, ◌≤◌}
use Rattle.queue.specs.Waiting.{waits}
use Rattle.drawing.specs.Network.{taken_down}
use Rattle.drawing.specs.Reduction.{Seeded}
use Rattle.drawing.proofs.reduction.Reduction.seed.Given as goal

abbrev pub invariant-loop-material : goal.invariant-loop-material
invariant-loop-material l =
    Seeded (taken_down l.network) l.initial.self.reduced.makers (waits l.self.waiting) l.material ×
    (l.self.reduced ≡ l.initial.self.reduced) ×
    (l.material ≤ l.network.materials + 1)
