-- The first entries are read.
use Rattle.std.proofs.Common.{◌≡◌, ◌-◌, take}
use Rattle.drawing.specs.Lists.{with_list}
use Rattle.drawing.specs.Sides.{list_at, Holds}
use Rattle.drawing.specs.TakingDown.{list_told}
use Rattle.drawing.proofs.takedown.read_list.Given as goal

abbrev pub invariant-loop-place : goal.invariant-loop-place
invariant-loop-place g l =
    let xs = list_told l.side l.unit (g.B.Book.meaning l.initial.book) in
    (l.book ≡ l.initial.book) × Holds l.lists (with_list (list_at l.initial.lists) l.unit (take (l.place - 1) xs))
