-- The list rises where what is left of it rises above the last number.
use Rattle.std.proofs.Common.{◌≡◌, ◌-◌, drop}
use Rattle.writing.specs.WrittenOut.{rises}
use Rattle.writing.specs.Told.{told_list}
use Rattle.writing.proofs.order.list_rises.Given as goal

abbrev pub invariant-loop-place : goal.invariant-loop-place
invariant-loop-place g l =
    let xs = told_list l.side l.unit (g.B.Book.meaning l.initial.book) in
    record {
      same : l.book ≡ l.initial.book;
      rest : rises 0 xs ≡ rises l.last (drop (l.place - 1) xs);
    }
