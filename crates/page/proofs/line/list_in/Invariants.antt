-- The list is read as far as its chunks were taken.
use Rattle.page.proofs.Entries.{ReadTo}
use Rattle.page.proofs.line.list_in.Given as goal

abbrev pub invariant-loop-i : goal.invariant-loop-i
invariant-loop-i l = ReadTo l.highest l.list l.i-iterator.count l.above l.i-iterator.iter.size l.i-iterator.iter.rest.now
