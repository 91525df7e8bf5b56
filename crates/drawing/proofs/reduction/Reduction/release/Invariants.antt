use Rattle.std.proofs.Common.{◌≡◌, take}
use Rattle.queue.specs.Waiting.{waits}
use Rattle.drawing.specs.Reduction.{Released}
use Rattle.drawing.proofs.reduction.Reduction.release.Given as goal

abbrev pub invariant-loop-x : goal.invariant-loop-x
invariant-loop-x l =
    Released (take l.x-index l.entries) l.initial.self.reduced.makers (waits l.initial.self.waiting) l.self.reduced.makers (waits l.self.waiting) ×
    (l.self.reduced.live ≡ l.initial.self.reduced.live)
