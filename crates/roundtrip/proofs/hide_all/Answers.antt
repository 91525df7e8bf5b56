-- One call after another hides one number more and keeps the frame.
use Rattle.std.proofs.Common.{◌+◌, ◌-◌, ◌∙◌, arith}
use Rattle.roundtrip.proofs.Hiding.{hidden_more, hidden_all}
use Rattle.roundtrip.proofs.hide_all.Goals as goal

pub loop-unit-preserved : goal.loop-unit-preserved
loop-unit-preserved g c = record {
  hidden = hidden_more g.B.Book.meaning _ c.loop-unit.unit _ _ c.hide.result (omega arith) (omega arith) c.loop-unit.invariant.hidden c.hide.ensures.told;
  held = g.B.Book.laws.chains _ _ _ c.loop-unit.invariant.held c.hide.ensures.held;
}

pub returns-2-clause-hidden : goal.returns-2-clause-hidden
returns-2-clause-hidden g c =
    let k = c.loop-unit.unit in
    let m = g.B.Book.meaning c.args.book.now in
    hidden_more g.B.Book.meaning m k _ _ c.hide.result (omega arith) (omega arith) c.loop-unit.invariant.hidden c.hide.ensures.told ∙ hidden_all m (k + 1 - 1) (omega arith)
