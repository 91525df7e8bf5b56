-- The fields of the places so far are put.
use Rattle.std.proofs.Common.{◌≡◌, take}
use Rattle.page.proofs.Lists.{listed}
use Rattle.writing.specs.Told.{told_list}
use Rattle.writing.proofs.Putting.{PutBefore}
use Rattle.writing.proofs.lines.put_list.Given as goal

abbrev pub invariant-loop-place : goal.invariant-loop-place
invariant-loop-place g l = record {
  same : l.book ≡ l.initial.book;
  put : PutBefore 5 l.place l.list (λ k. listed k (take k (told_list l.side l.unit (g.B.Book.meaning l.initial.book))));
}
