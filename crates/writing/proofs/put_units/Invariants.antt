-- The lines of the unit numbers so far are put.
use Rattle.std.proofs.Common.{◌≡◌, take}
use Rattle.page.specs.Format.{unit_line, numbered}
use Rattle.writing.specs.WrittenOut.{as_written}
use Rattle.writing.proofs.Putting.{PutBefore}
use Rattle.writing.proofs.put_units.Given as goal

abbrev pub invariant-loop-unit : goal.invariant-loop-unit
invariant-loop-unit g l = record {
  same : l.book ≡ l.initial.book;
  put : PutBefore 87 l.unit l.lines (λ k. numbered unit_line 1 (take k (as_written (g.B.Book.meaning l.initial.book)).units));
}
