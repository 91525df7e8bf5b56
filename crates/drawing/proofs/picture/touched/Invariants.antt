use Rattle.std.proofs.Common.{◌≡◌, ℕ, length, Decides}
use Rattle.drawing.specs.Flags.{flagged}
use Rattle.drawing.specs.Network.{taken_down}
use Rattle.drawing.proofs.Touching.{TouchedBelow}
use Rattle.drawing.proofs.picture.touched.Given as goal

abbrev pub invariant-loop-unit : goal.invariant-loop-unit
invariant-loop-unit l = (length l.flags ≡ 1025) × ((x : ℕ) → Decides (flagged l.flags x) (TouchedBelow (taken_down l.network) (flagged l.units) l.unit x))
