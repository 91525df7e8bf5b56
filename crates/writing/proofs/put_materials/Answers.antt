-- Each turn puts the next line behind those that are there.
use Rattle.std.proofs.Common.{◌∙◌, arith}
use Rattle.book.specs.Asked.{plain}
use Rattle.page.specs.Format.{material_line}
use Rattle.writing.specs.Told.{told_material}
use Rattle.writing.proofs.Answered.{asked_again, material_told}
use Rattle.writing.proofs.Numbering.{line_put, lines_put}
use Rattle.writing.proofs.put_materials.Goals as goal

pub loop-material-preserved : goal.loop-material-preserved
loop-material-preserved g c =
    let same = c.loop-material.invariant.same in
    let k = c.loop-material.material in
    let m = g.B.Book.meaning c.args.book.now in
    let line = asked_again (λ b. material_line k (told_material k (g.B.Book.meaning b))) c.put_material.ensures.put same in
    record {
      same = c.put_material.ensures.same ∙ same;
      put = line_put material_line plain c.loop-material.invariant.put c.from-start.ensures (omega arith) (omega arith) (omega arith) c.put_material.auto.line line (material_told m k (omega arith) (omega arith));
    }

pub returns-2-clause-put : goal.returns-2-clause-put
returns-2-clause-put g c =
    let same = c.loop-material.invariant.same in
    let k = c.loop-material.material in
    let m = g.B.Book.meaning c.args.book.now in
    let line = asked_again (λ b. material_line k (told_material k (g.B.Book.meaning b))) c.put_material.ensures.put same in
    let put = line_put material_line plain c.loop-material.invariant.put c.from-start.ensures (omega arith) (omega arith) (omega arith) c.put_material.auto.line line (material_told m k (omega arith) (omega arith)) in
    lines_put material_line put (omega arith) (omega arith)
