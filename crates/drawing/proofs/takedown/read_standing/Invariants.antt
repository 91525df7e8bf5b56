-- The units so far are read.
use Rattle.std.proofs.Common.{◌≡◌, false}
use Rattle.structure.specs.Problem.{problem}
use Rattle.drawing.specs.Flags.{Flags}
use Rattle.drawing.proofs.TakingDown.{below}
use Rattle.drawing.proofs.takedown.read_standing.Given as goal

abbrev pub invariant-loop-unit : goal.invariant-loop-unit
invariant-loop-unit g l = (l.book ≡ l.initial.book) × Flags l.standing (below l.unit false (problem (g.B.Book.meaning l.initial.book)).standing)
