-- The numbers so far are hidden, and the frame is kept.
use Rattle.std.proofs.Common.{◌≡◌, ◌-◌}
use Rattle.roundtrip.proofs.Hiding.{hidden_to}
use Rattle.roundtrip.proofs.hide_all.Given as goal

abbrev pub invariant-loop-unit : goal.invariant-loop-unit
invariant-loop-unit g l = record {
  hidden : g.B.Book.meaning l.book ≡ hidden_to (l.unit - 1) (g.B.Book.meaning l.fn.book);
  held : g.B.Book.kept l.fn.book l.book;
}
