-- The line is there, and its reader tells of it.
use Rattle.std.proofs.Common.{sym, subst}
use Rattle.page.specs.Layout.{unit}
use Rattle.page.specs.Readers.{LineThere, LineChecked}
use Rattle.page.proofs.Checking.{there_length, checked_line}
use Rattle.page.proofs.counts.Counts.check_unit.Goals as goal

pub unit_line-requires : goal.unit_line-requires
unit_line-requires c = there_length c.args.bytes.now c.unit_start-start.result 87 _ c.in_ok-line.ensures

pub returns : goal.returns
returns c =
    let bytes = c.args.bytes.now in
    let l = c.args.self.materials in
    let k = c.args.number in
    let part = c.in_ok-line.line.now in
    subst (LineChecked bytes l (unit k)) (sym c.on_line.ensures)
    (checked_line bytes l (unit k) part c.unit_line.result (subst (λ s. LineThere bytes s 87 part) c.unit_start-start.ensures c.in_ok-line.ensures) c.unit_line.ensures)
