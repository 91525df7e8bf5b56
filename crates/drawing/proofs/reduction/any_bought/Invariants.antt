use Rattle.std.proofs.Common.{◌≡◌, ℕ, ◌<◌, false, get_or}
use Rattle.drawing.specs.Flags.{flagged}
use Rattle.drawing.proofs.reduction.any_bought.Given as goal

abbrev pub invariant-loop-x : goal.invariant-loop-x
invariant-loop-x l = (k : ℕ) → k < l.x-index → flagged l.bought (get_or l.entries k 0) ≡ false
