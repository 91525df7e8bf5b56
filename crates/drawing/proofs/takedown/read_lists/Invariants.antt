-- The lists of the units so far are read.
use Rattle.std.proofs.Common.{◌≡◌, []}
use Rattle.drawing.specs.Sides.{Holds}
use Rattle.drawing.specs.TakingDown.{list_told}
use Rattle.drawing.proofs.TakingDown.{below}
use Rattle.drawing.proofs.takedown.read_lists.Given as goal

abbrev pub invariant-loop-unit : goal.invariant-loop-unit
invariant-loop-unit g l = (l.book ≡ l.initial.book) × Holds l.lists (below l.unit [] (λ u. list_told l.side u (g.B.Book.meaning l.initial.book)))
