use Rattle.std.proofs.Common.{sym, subst}
use Rattle.queue.specs.Waiting.{waits}
use Rattle.drawing.specs.declared.reduction.Reduced.{Reduced}
use Rattle.drawing.specs.Network.{taken_down}
use Rattle.drawing.specs.Reduction.{Reducing}
use Rattle.drawing.proofs.Reducing.{reducing_starts, reduced_largest, reduced_counted}
use Rattle.drawing.proofs.reduction.reduce.Goals as goal

pub drain-requires : goal.drain-requires
drain-requires c =
    let p = taken_down c.args.network.now in
    subst (λ (r : Reduced). Reducing p r.live r.makers (waits c.seed.new.self.waiting)) (sym c.seed.ensures.same) (reducing_starts p c.args.network.now.bounded c.enlist.ensures c.seed.ensures.seeded)

pub returns : goal.returns
returns c =
    let n = c.args.network.now in
    let t = c.drain.ensures in
    record { largest = reduced_largest (taken_down n) n.bounded t; counted = reduced_counted (taken_down n) n.bounded t }
