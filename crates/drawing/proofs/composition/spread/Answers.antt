use Rattle.std.proofs.Common.{List, length, ap, subst, arith}
use Rattle.drawing.specs.declared.composition.Need.{Need}
use Rattle.drawing.specs.Flags.{flagged}
use Rattle.drawing.specs.Network.{taken_down}
use Rattle.drawing.specs.Composition.{Spreading}
use Rattle.drawing.proofs.Spreading.{at_first, ended}
use Rattle.drawing.proofs.composition.spread.Goals as goal

pub rank_makers-requires : goal.rank_makers-requires
rank_makers-requires c =
    let p = taken_down c.args.network.now in
    let g = flagged c.args.live.now in
    let (r, s, room) = c.loop-need.invariant.0 in
    let oldest = c.in-Some.ensures.told.oldest in
    let (rank, spreading) = at_first (subst (λ (l : List Need). Spreading p g c.loop-need.needs.asked c.loop-need.ranks l r) oldest s) in
    record {
      spreading = spreading;
      room = omega (arith, ap length oldest);
    }

pub returns : goal.returns
returns c =
    let p = taken_down c.args.network.now in
    let g = flagged c.args.live.now in
    let (r, s, room) = c.loop-need.invariant.0 in
    ended (subst (λ (l : List Need). Spreading p g c.loop-need.needs.asked c.loop-need.ranks l r) c.in_default.ensures.told.empty s) c.loop-need.invariant.1
