use Rattle.std.proofs.Common.{ℕ, ◌<◌, List, length, sym, ap, ◌∙◌, subst, arith}
use Rattle.book.specs.Layers.{names}
use Rattle.structure.specs.Problem.{Takes}
use Rattle.queue.specs.Waiting.{waits}
use Rattle.drawing.specs.Network.{taken_down}
use Rattle.drawing.specs.Units.{units_left}
use Rattle.drawing.proofs.Asking.{asked_same}
use Rattle.drawing.proofs.Walks.{named_known}
use Rattle.drawing.proofs.Makers.{Walking, makes, walk_ranks, walk_ends}
use Rattle.drawing.proofs.composition.rank_makers.Goals as goal

pub loop-unit-preserved-then-ranks-unit-eq0 : goal.loop-unit-preserved-then-ranks-unit-eq0
loop-unit-preserved-then-ranks-unit-eq0 c =
    let n = c.args.network.now in
    let live = c.args.live.now in
    let ranks = c.loop-unit.ranks in
    let u = c.in-Some.unit in
    let walk = subst (λ (us : List ℕ). Walking n live c.args.need c.args.needs.now.asked (waits c.args.needs.now.waiting) c.loop-unit.needs.asked ranks (waits c.loop-unit.needs.waiting) us) c.in-Some.ensures.steps c.loop-unit.invariant in
    let left = units_left c.next.new.self in
    let inside : u < length ranks = omega (arith, named_known n.outputs c.args.need.material u (makes n live u left walk)) in
    let asked = asked_same c.ask_each.ensures (Takes (taken_down n) u) (λ x h. sym (ap (names x) c.list.ensures.same) ∙ h) (λ x h. ap (names x) c.list.ensures.same ∙ h) in
    walk_ranks n live u left walk c.if-live-unit.true c.if-ranks-unit-eq0.true inside asked

pub returns-clause-spreading : goal.returns-clause-spreading
returns-clause-spreading c =
    let n = c.args.network.now in
    let live = c.args.live.now in
    walk_ends n live (subst (λ (us : List ℕ). Walking n live c.args.need c.args.needs.now.asked (waits c.args.needs.now.waiting) c.loop-unit.needs.asked c.loop-unit.ranks (waits c.loop-unit.needs.waiting) us) c.in-None.ensures.steps.0 c.loop-unit.invariant)
