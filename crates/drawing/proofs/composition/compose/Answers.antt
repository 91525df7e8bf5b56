use Rattle.std.proofs.Common.{ℕ, List, replicate, subst}
use Rattle.queue.specs.Waiting.{waits}
use Rattle.structure.specs.Problem.{Member}
use Rattle.drawing.specs.declared.composition.Need.{Need}
use Rattle.drawing.specs.Network.{taken_down}
use Rattle.drawing.specs.Composition.{Asked}
use Rattle.drawing.proofs.Pushing.{all_same}
use Rattle.drawing.proofs.Spreading.{begun}
use Rattle.drawing.proofs.composition.compose.Goals as goal

pub spread-requires : goal.spread-requires
spread-requires c =
    let p = taken_down c.args.network.now in
    let needs = c.new-needs.result in
    let asked = subst (λ (l : List Need). Asked (Member p.wanted) 1 needs.asked l c.ask_wanted.new.self.asked (waits c.ask_wanted.new.self.waiting)) c.new-needs.ensures.waiting c.ask_wanted.ensures in
    begun (replicate 1025 0) asked c.new-needs.ensures.asked.each (λ u. all_same {X = ℕ} 1025 u 0)
