use Rattle.std.proofs.Common.{◌≡◌, true, take}
use Rattle.book.specs.Layers.{names}
use Rattle.queue.specs.Waiting.{waits}
use Rattle.drawing.specs.Composition.{Asked}
use Rattle.drawing.proofs.composition.Needs.ask_each.Given as goal

-- the materials so far were asked for
abbrev pub invariant-loop-x : goal.invariant-loop-x
invariant-loop-x l =
    Asked (λ x. names x (take l.x-index l.materials) ≡ true) l.rank l.initial.self.asked (waits l.initial.self.waiting) l.self.asked (waits l.self.waiting)
