use Rattle.std.proofs.Common.{◌+◌, ◌≤◌, ◌∷◌, length}
use Rattle.structure.specs.Problem.{Member}
use Rattle.queue.specs.Waiting.{waits}
use Rattle.drawing.specs.Flags.{flagged}
use Rattle.drawing.specs.Network.{taken_down}
use Rattle.drawing.specs.Reduction.{zeros, Reducing}
use Rattle.drawing.specs.Units.{units_left}
use Rattle.drawing.proofs.Walks.{Naming, Past}
use Rattle.drawing.proofs.reduction.Reduction.sweep.Given as goal

abbrev pub invariant-loop-unit : goal.invariant-loop-unit
invariant-loop-unit l =
    Reducing (taken_down l.network) l.self.reduced.live l.self.reduced.makers (l.material ∷ waits l.self.waiting) ×
    (length (waits l.self.waiting) + zeros l.initial.self.reduced.makers ≤ length (waits l.initial.self.waiting) + zeros l.self.reduced.makers) ×
    Naming l.network.inputs l.material (units_left l.unit-iterator) ×
    Past l.network.inputs l.material (units_left l.unit-iterator) (λ u. Member (flagged l.self.reduced.live) u → ⊥)
