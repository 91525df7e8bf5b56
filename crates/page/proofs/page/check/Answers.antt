-- What the check tells at each of its returns; the other promises follow from that.
use Rattle.std.proofs.Common.{ℕ, Ok, Err, Result, sym, subst, arith}
use Rattle.book.specs.declared.PageFault.{PageFault}
use Rattle.page.specs.Checked.{Checked}
use Rattle.page.specs.Layout.{counts}
use Rattle.page.proofs.Checking.{faulty_cut, faulty_first, opened, refused_first, refused_material, refused_unit, refused_after, accepted}
use Rattle.page.proofs.Reading.{at_exit}
use Rattle.page.proofs.Verdict.{verdict}
use Rattle.page.proofs.page.check.Goals as goal

pub returns-in_err-first : goal.returns-in_err-first
returns-in_err-first c =
    let bytes = c.args.bytes.now in
    let r = c.from_residual.result in
    let fault = c.in_err-first.field-0.0 in
    let told = at_exit (Checked bytes) r fault c.from_residual.ensures.1 (refused_first bytes fault.line fault.column (faulty_cut bytes 0 counts fault c.in_err-first.ensures)) in
    verdict bytes r told

pub returns-in_err-counts : goal.returns-in_err-counts
returns-in_err-counts c =
    let bytes = c.args.bytes.now in
    let r = c.from_residual-in_err-counts.result in
    let fault = c.in_err-counts.field-0.0 in
    let first = c.in_ok-first.first.now in
    let faulty = faulty_first bytes first c.counts_line.result fault c.in_ok-first.ensures c.counts_line.ensures.told c.in_err-counts.ensures in
    let told = at_exit (Checked bytes) r fault c.from_residual-in_err-counts.ensures.1 (refused_first bytes fault.line fault.column faulty) in
    verdict bytes r told

pub returns-in_err-check_materials : goal.returns-in_err-check_materials
returns-in_err-check_materials c =
    let bytes = c.args.bytes.now in
    let shown = c.in_ok-counts.counts in
    let l = shown.materials in
    let n = shown.units in
    let o = opened bytes c.in_ok-first.first.now c.counts_line.result shown c.in_ok-first.ensures c.counts_line.ensures.told c.counts_line.ensures.counted c.in_ok-counts.ensures in
    let r = c.from_residual-in_err-check_materials.result in
    let fault = c.in_err-check_materials.field-0.0 in
    let told = at_exit (Checked bytes) r fault c.from_residual-in_err-check_materials.ensures.1 (refused_material bytes l n o fault c.in_err-check_materials.ensures) in
    verdict bytes r told

pub returns-in_err-check_units : goal.returns-in_err-check_units
returns-in_err-check_units c =
    let bytes = c.args.bytes.now in
    let shown = c.in_ok-counts.counts in
    let l = shown.materials in
    let n = shown.units in
    let o = opened bytes c.in_ok-first.first.now c.counts_line.result shown c.in_ok-first.ensures c.counts_line.ensures.told c.counts_line.ensures.counted c.in_ok-counts.ensures in
    let r = c.from_residual-in_err-check_units.result in
    let fault = c.in_err-check_units.field-0.0 in
    let told = at_exit (Checked bytes) r fault c.from_residual-in_err-check_units.ensures.1 (refused_unit bytes l n o c.in_ok-check_materials.ensures fault c.in_err-check_units.ensures) in
    verdict bytes r told

pub returns-then-bytes-page_length : goal.returns-then-bytes-page_length
returns-then-bytes-page_length c =
    let bytes = c.args.bytes.now in
    let shown = c.in_ok-counts.counts in
    let l = shown.materials in
    let n = shown.units in
    let o = opened bytes c.in_ok-first.first.now c.counts_line.result shown c.in_ok-first.ensures c.counts_line.ensures.told c.counts_line.ensures.counted c.in_ok-counts.ensures in
    let r : Result (ℕ × ℕ) PageFault = Err c.bytes_after.result in
    let after = refused_after bytes l n o c.in_ok-check_materials.ensures c.in_ok-check_units.ensures (omega (arith, c.page_length.ensures, c.if-bytes-page_length.true)) in
    let told = subst (λ fault. Checked bytes (Err fault)) (sym c.bytes_after.ensures) after in
    verdict bytes r told

pub returns : goal.returns
returns c =
    let bytes = c.args.bytes.now in
    let shown = c.in_ok-counts.counts in
    let l = shown.materials in
    let n = shown.units in
    let o = opened bytes c.in_ok-first.first.now c.counts_line.result shown c.in_ok-first.ensures c.counts_line.ensures.told c.counts_line.ensures.counted c.in_ok-counts.ensures in
    let r : Result (ℕ × ℕ) PageFault = Ok (l, n) in
    let told = accepted bytes l n o c.in_ok-check_materials.ensures c.in_ok-check_units.ensures (omega (arith, c.page_length.ensures, c.if-bytes-page_length.false)) in
    verdict bytes r told
