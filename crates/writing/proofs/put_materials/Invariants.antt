-- The lines of the materials so far are put.
use Rattle.std.proofs.Common.{◌≡◌, take}
use Rattle.page.specs.Format.{material_line, numbered}
use Rattle.writing.proofs.Putting.{PutBefore}
use Rattle.writing.proofs.put_materials.Given as goal

abbrev pub invariant-loop-material : goal.invariant-loop-material
invariant-loop-material g l = record {
  same : l.book ≡ l.initial.book;
  put : PutBefore 7 l.material l.lines (λ k. numbered material_line 1 (take k (g.B.Book.meaning l.initial.book).materials));
}
