use Rattle.std.proofs.Common.{◌<◌}
use Rattle.queue.specs.Waiting.{waits}
use Rattle.structure.specs.Problem.{Member}
use Rattle.drawing.specs.Flags.{flagged}
use Rattle.drawing.specs.Composition.{Asked}
use Rattle.drawing.proofs.composition.Needs.ask_wanted.Given as goal

-- what is wanted among the numbers so far was asked for
abbrev pub invariant-loop-x : goal.invariant-loop-x
invariant-loop-x l =
    Asked (λ y. (y < l.x) × Member (flagged l.network.wanted) y) 1 l.initial.self.asked (waits l.initial.self.waiting) l.self.asked (waits l.self.waiting)
