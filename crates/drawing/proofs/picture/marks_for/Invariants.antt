use Rattle.std.proofs.Common.{◌≡◌, ℕ, ◌+◌, ◌<◌, length, get_or}
use Rattle.structure.specs.declared.Mark.TheVariants.{Unasked}
use Rattle.structure.specs.Answers.{mark_for}
use Rattle.drawing.specs.Flags.{flagged}
use Rattle.drawing.proofs.picture.marks_for.Given as goal

abbrev pub invariant-loop-place : goal.invariant-loop-place
invariant-loop-place l = (length l.mark-items ≡ 1024) × ((k : ℕ) → k < l.place → get_or l.mark-items k Unasked ≡ mark_for (flagged l.drawn (k + 1)) (flagged l.there (k + 1)))
