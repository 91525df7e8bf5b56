-- The line of a withheld unit becomes that of a free number.
use Rattle.std.proofs.Common.{refl}
use Rattle.book.specs.Meaning.{free}
use Rattle.book.specs.Edits.{clear_edit}
use Rattle.pagebook.specs.PageBooks.{page_meaning}
use Rattle.pagebook.proofs.Refitted.{free_writable}
use Rattle.pagebook.proofs.Found.{withheld_unit_at}
use Rattle.pagebook.proofs.Decided.{return_passes}
use Rattle.pagebook.proofs.Owed.{refit_owed}
use Rattle.pagebook.proofs.edits.PageBookEditableBook.clear.Goals as goal

pub returns : goal.returns
returns c =
    let book = c.args.self.now in
    let bytes = book.bytes.now in
    let k = c.args.unit in
    let line = c.in_ok-line.line in
    let w = withheld_unit_at book.«open» bytes k line c.in_ok-line.ensures.line in
    let o = refit_owed book.«open» (clear_edit k) bytes c.put_unit.new.bytes k line free w.at (free_writable line.materials) c.put_unit.ensures
    (return_passes (page_meaning book) k w.test) refl in
    record { told = o.told; held = record { there = refl; same_open = refl; bytes = o.kept; shut = o.shut } }
