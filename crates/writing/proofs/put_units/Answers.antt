-- Each turn puts the next line behind those that are there.
use Rattle.std.proofs.Common.{◌∙◌, arith}
use Rattle.std.proofs.lemmas.List.{length-map}
use Rattle.book.specs.Meaning.{free}
use Rattle.page.specs.Format.{unit_line}
use Rattle.writing.specs.WrittenOut.{settled}
use Rattle.writing.specs.Told.{told_state}
use Rattle.writing.proofs.Answered.{asked_again, state_written}
use Rattle.writing.proofs.Numbering.{line_put, lines_put}
use Rattle.writing.proofs.put_units.Goals as goal

pub loop-unit-preserved : goal.loop-unit-preserved
loop-unit-preserved g c =
    let same = c.loop-unit.invariant.same in
    let k = c.loop-unit.unit in
    let m = g.B.Book.meaning c.args.book.now in
    let count = length-map m.units settled in
    let line = asked_again (λ b. unit_line k (told_state k (g.B.Book.meaning b))) c.put_unit.ensures.put same in
    record {
      same = c.put_unit.ensures.same ∙ same;
      put = line_put unit_line free c.loop-unit.invariant.put c.from-start.ensures (omega arith) (omega arith) (omega arith) c.put_unit.auto.line line (state_written m k (omega arith) (omega arith));
    }

pub returns-2-clause-put : goal.returns-2-clause-put
returns-2-clause-put g c =
    let same = c.loop-unit.invariant.same in
    let k = c.loop-unit.unit in
    let m = g.B.Book.meaning c.args.book.now in
    let count = length-map m.units settled in
    let line = asked_again (λ b. unit_line k (told_state k (g.B.Book.meaning b))) c.put_unit.ensures.put same in
    let put = line_put unit_line free c.loop-unit.invariant.put c.from-start.ensures (omega arith) (omega arith) (omega arith) c.put_unit.auto.line line (state_written m k (omega arith) (omega arith)) in
    lines_put unit_line put (omega arith) (omega arith)
