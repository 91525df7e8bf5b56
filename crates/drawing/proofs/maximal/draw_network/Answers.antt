use Rattle.std.proofs.lemmas.Bool.{both_ways}
use Rattle.drawing.specs.Flags.{flagged}
use Rattle.drawing.specs.Network.{taken_down}
use Rattle.drawing.proofs.Deciding.{ranked_stand, refused_impossible, accepted}
use Rattle.drawing.proofs.maximal.draw_network.Goals as goal

pub returns-then-not-all_made : goal.returns-then-not-all_made
returns-then-not-all_made c =
    refused_impossible (taken_down c.args.network.now) c.args.network.now.bounded c.in_ok-ready.ensures (flagged c.reduce-reduced.result.live) c.reduce-reduced.ensures.largest
    c.reduce-reduced.result.makers c.reduce-reduced.ensures.counted (λ all. both_ways c.all_made.result c.if-not-all_made.true (c.all_made.ensures.1 all))

pub pictured-requires : goal.pictured-requires
pictured-requires c =
    ranked_stand (taken_down c.args.network.now) (flagged c.reduce-reduced.result.live) c.compose-ranks.result c.compose-ranks.ensures c.reduce-reduced.ensures.largest.supported

pub returns : goal.returns
returns c =
    accepted (taken_down c.args.network.now) c.args.network.now.bounded c.in_ok-ready.ensures (flagged c.reduce-reduced.result.live) c.reduce-reduced.ensures.largest
    c.reduce-reduced.result.makers c.reduce-reduced.ensures.counted c.args.network.now.few_units c.args.network.now.few_materials (c.all_made.ensures.0 c.if-not-all_made.false)
    c.compose-ranks.result c.compose-ranks.ensures _ c.pictured.ensures
