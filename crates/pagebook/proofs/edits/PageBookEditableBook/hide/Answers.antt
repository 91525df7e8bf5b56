-- A unit that stands gets the letter of a withheld one.
use Rattle.std.proofs.Common.{◌≡◌, rules, refl, ap, ◌∙◌}
use Rattle.book.specs.declared.books.State.TheVariants.{Standing, Withheld}
use Rattle.book.specs.Declined.{is_standing}
use Rattle.book.specs.Edits.{hidden_state, with_unit, hide_edit}
use Rattle.pagebook.specs.PageBooks.{page_meaning}
use Rattle.pagebook.specs.Places.{lists_in}
use Rattle.pagebook.proofs.Found.{in_state, unit_at}
use Rattle.pagebook.proofs.Decided.{hide_passes}
use Rattle.pagebook.proofs.Owed.{letter_owed}
use Rattle.pagebook.proofs.edits.PageBookEditableBook.hide.Goals as goal

pub returns : goal.returns
returns c =
    let book = c.args.self.now in
    let bytes = book.bytes.now in
    let k = c.args.unit in
    let m = page_meaning book in
    let line = c.in_ok-line.line in
    let at = unit_at book.«open» bytes k line c.unit_line.result c.unit_line.ensures.line c.in_ok-line.ensures.ok_part in
    let kind : line.state ≡ Standing = search rules in
    let stands = ap is_standing (at.state ∙ ap (λ s. in_state s (lists_in bytes line)) kind) in
    let o = letter_owed Standing Withheld (λ j f. refl) book.«open» (hide_edit k) bytes k line c.letter.result at kind c.letter.ensures
    (hide_passes m k at.there stands) (λ f e. ap (λ s. with_unit m k (hidden_state s)) e) in
    record { told = o.told; held = record { there = refl; same_open = refl; bytes = o.kept; shut = o.shut } }
