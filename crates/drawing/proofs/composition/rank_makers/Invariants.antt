use Rattle.queue.specs.Waiting.{waits}
use Rattle.drawing.specs.Units.{units_left}
use Rattle.drawing.proofs.Makers.{Walking}
use Rattle.drawing.proofs.composition.rank_makers.Given as goal

abbrev pub invariant-loop-unit : goal.invariant-loop-unit
invariant-loop-unit l =
    Walking l.network l.live l.need l.initial.needs.asked (waits l.initial.needs.waiting) l.needs.asked l.ranks (waits l.needs.waiting) (units_left l.unit-iterator)
