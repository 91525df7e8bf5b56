-- All lists rise where those of the units that are left do.
use Rattle.std.proofs.Common.{◌≡◌, ◌-◌, drop}
use Rattle.writing.specs.WrittenOut.{all_rise}
use Rattle.writing.proofs.order.lists_rise.Given as goal

abbrev pub invariant-loop-unit : goal.invariant-loop-unit
invariant-loop-unit g l =
    let us = (g.B.Book.meaning l.initial.book).units in
    record {
      same : l.book ≡ l.initial.book;
      rest : all_rise us ≡ all_rise (drop (l.unit - 1) us);
    }
