use Rattle.std.proofs.Common.{ℕ, List, replicate, arith}
use Rattle.std.proofs.lemmas.List.{length-replicate}
use Rattle.drawing.specs.Network.{taken_down}
use Rattle.drawing.proofs.Pushing.{all_same}
use Rattle.drawing.proofs.Enlisting.{enlisted_none}
use Rattle.drawing.proofs.reduction.enlist.Goals as goal

pub loop-unit-init : goal.loop-unit-init
loop-unit-init c =
    let makers : List ℕ = replicate 1025 0 in
    let none = c.no_flags.ensures in
    (enlisted_none (taken_down c.args.network.now) c.args.network.now.bounded c.no_flags.result makers none.long (length-replicate {A = ℕ} 1025 0) none.each (λ x. all_same {X = ℕ} 1025 x 0), omega arith)
