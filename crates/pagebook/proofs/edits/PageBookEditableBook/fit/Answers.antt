-- At a free number the line gets the letter of a standing unit and the two lists.
use Rattle.std.proofs.Common.{◌≡◌, ◌≤◌, true, ◌&&◌, rules, refl, sym, ap, ◌∙◌, arith}
use Rattle.std.proofs.lemmas.Bool.{and_parts}
use Rattle.book.specs.declared.books.State.TheVariants.{Free}
use Rattle.book.specs.Meaning.{standing}
use Rattle.book.specs.Declined.{fitting, is_free}
use Rattle.book.specs.Edits.{lists_given, fit_edit}
use Rattle.pagebook.specs.declared.lines.UnitLine.{UnitLine}
use Rattle.pagebook.specs.PageBooks.{page_meaning}
use Rattle.pagebook.specs.Places.{lists_in}
use Rattle.pagebook.proofs.Refitted.{fitting_most, fitting_writable}
use Rattle.pagebook.proofs.Found.{in_state, few_there, unit_at}
use Rattle.pagebook.proofs.Decided.{fit_passes}
use Rattle.pagebook.proofs.Owed.{refit_owed}
use Rattle.pagebook.proofs.edits.PageBookEditableBook.fit.Goals as goal

pub put_unit-requires : goal.put_unit-requires
put_unit-requires c =
    let book = c.args.self.now in
    let bytes = book.bytes.now in
    let line = c.in_ok-line.line in
    let f = lists_given c.args.lists in
    let at = unit_at book.«open» bytes c.args.unit line c.unit_line.result c.unit_line.ensures.line c.in_ok-line.ensures.ok_part in
    let few : line.materials ≤ 512 = omega (arith, ap (λ (x : UnitLine). x.materials) at.place, few_there book.«open» bytes) in
    let both = and_parts (fitting line.materials f.inputs) (fitting line.materials f.outputs) (sym c.if-not-fit.ensures) in
    record { within = at.whole; listed = fitting_most line.materials f few both.0 both.1 }

pub returns : goal.returns
returns c =
    let book = c.args.self.now in
    let bytes = book.bytes.now in
    let k = c.args.unit in
    let f = lists_given c.args.lists in
    let m = page_meaning book in
    let line = c.in_ok-line.line in
    let at = unit_at book.«open» bytes k line c.unit_line.result c.unit_line.ensures.line c.in_ok-line.ensures.ok_part in
    let listed : (fitting line.materials f.inputs && fitting line.materials f.outputs) ≡ true = sym c.if-not-fit.ensures in
    let both = and_parts (fitting line.materials f.inputs) (fitting line.materials f.outputs) listed in
    let count = ap (λ (x : UnitLine). x.materials) (sym at.place) in
    let kind : line.state ≡ Free = search rules in
    let free_there = ap is_free (at.state ∙ ap (λ s. in_state s (lists_in bytes line)) kind) in
    let passes = fit_passes m k f at.there (ap (λ l. fitting l f.inputs && fitting l f.outputs) count ∙ listed) free_there in
    let o = refit_owed book.«open» (fit_edit k f) bytes c.put_unit.new.bytes k line (standing f) at (fitting_writable line.materials f both.0 both.1) c.put_unit.ensures passes refl in
    record { told = o.told; held = record { there = refl; same_open = refl; bytes = o.kept; shut = o.shut } }
