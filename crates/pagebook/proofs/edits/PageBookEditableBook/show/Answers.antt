-- A withheld unit gets the letter of one that stands.
use Rattle.std.proofs.Common.{refl, ap}
use Rattle.book.specs.declared.books.State.TheVariants.{Standing, Withheld}
use Rattle.book.specs.Edits.{shown_state, with_unit, show_edit}
use Rattle.pagebook.specs.PageBooks.{page_meaning}
use Rattle.pagebook.proofs.Found.{withheld_unit_at}
use Rattle.pagebook.proofs.Decided.{return_passes}
use Rattle.pagebook.proofs.Owed.{letter_owed}
use Rattle.pagebook.proofs.edits.PageBookEditableBook.show.Goals as goal

pub returns : goal.returns
returns c =
    let book = c.args.self.now in
    let bytes = book.bytes.now in
    let k = c.args.unit in
    let m = page_meaning book in
    let line = c.in_ok-line.line in
    let w = withheld_unit_at book.«open» bytes k line c.in_ok-line.ensures.line in
    let o = letter_owed Withheld Standing (λ j f. refl) book.«open» (show_edit k) bytes k line c.letter.result w.at w.kind c.letter.ensures
    (return_passes m k w.test) (λ f e. ap (λ s. with_unit m k (shown_state s)) e) in
    record { told = o.told; held = record { there = refl; same_open = refl; bytes = o.kept; shut = o.shut } }
