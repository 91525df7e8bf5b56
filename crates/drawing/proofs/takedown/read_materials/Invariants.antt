-- The materials so far are read.
use Rattle.std.proofs.Common.{◌≡◌, false}
use Rattle.structure.specs.Problem.{problem}
use Rattle.drawing.specs.Flags.{Flags}
use Rattle.drawing.proofs.TakingDown.{below}
use Rattle.drawing.proofs.takedown.read_materials.Given as goal

abbrev pub invariant-loop-material : goal.invariant-loop-material
invariant-loop-material g l =
    let p = problem (g.B.Book.meaning l.initial.book) in
    (l.book ≡ l.initial.book) × Flags l.wanted (below l.material false p.wanted) × Flags l.bought (below l.material false p.bought)
