-- The line of the material gets the letter of its class.
use Rattle.std.proofs.Common.{refl}
use Rattle.book.specs.Edits.{class_edit}
use Rattle.pagebook.specs.PageBooks.{page_meaning}
use Rattle.pagebook.proofs.Found.{material_at_line}
use Rattle.pagebook.proofs.Decided.{class_passes}
use Rattle.pagebook.proofs.Owed.{class_owed}
use Rattle.pagebook.proofs.edits.PageBookEditableBook.class.Goals as goal

pub returns : goal.returns
returns c =
    let book = c.args.self.now in
    let bytes = book.bytes.now in
    let k = c.args.material in
    let class = c.args.class in
    let start = c.in_ok-start.start in
    let at = material_at_line book.«open» bytes k start c.material_line.result c.material_line.ensures.line c.in_ok-start.ensures.ok_part in
    let o = class_owed book.«open» (class_edit k class.wanted class.bought) bytes k start c.letter.result class.wanted class.bought at.0 at.1 c.letter.ensures
    (class_passes (page_meaning book) k at.0) refl in
    record { told = o.told; held = record { there = refl; same_open = refl; bytes = o.kept; shut = o.shut } }
