use Rattle.std.proofs.Common.{◌≡◌, ℕ, ◌<◌, false, length, get_or}
use Rattle.drawing.specs.Picture.{ranked}
use Rattle.drawing.proofs.picture.ranked.Given as goal

abbrev pub invariant-loop-unit : goal.invariant-loop-unit
invariant-loop-unit l = (length l.flags ≡ 1025) × ((k : ℕ) → k < l.unit → get_or l.flags k false ≡ ranked l.ranks k)
