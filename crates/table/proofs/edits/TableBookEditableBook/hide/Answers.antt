-- Each reason in its order, and the row with another state where none holds.
use Rattle.std.proofs.Common.{◌≡◌, false, rules, sym, refl, ◌∙◌}
use Rattle.book.specs.declared.books.State.TheVariants.{Standing}
use Rattle.book.specs.declared.Refusal.TheVariants.{OutOfRange}
use Rattle.book.specs.Declined.{is_standing}
use Rattle.book.specs.Edits.{hide_edit}
use Rattle.table.specs.Rows.{used, state_in}
use Rattle.table.proofs.Seen.{row_in}
use Rattle.table.proofs.Changes.{refused, hide_outside, hide_refused, hide_accepted}
use Rattle.table.proofs.edits.TableBookEditableBook.hide.Goals as goal

pub returns-in_err-place-clause-told : goal.returns-in_err-place-clause-told
returns-in_err-place-clause-told c =
    refused c.args.self.now (hide_edit c.args.unit) OutOfRange c.from_residual.result (search rules)
    (hide_outside c.args.self.now c.args.unit (sym c.in_err-place.ensures.ok_part ∙ c.row_place.ensures))

pub returns-then-ne-clause-told : goal.returns-then-ne-clause-told
returns-then-ne-clause-told c =
    let t = c.args.self.now in
    let i = c.in_ok-place.place in
    let other : is_standing (state_in (used t.materials.now) (row_in t.units.now i)) ≡ false = search rules in
    (hide_refused t c.args.unit i (sym c.in_ok-place.ensures.ok_part ∙ c.row_place.ensures) other, refl)

pub returns : goal.returns
returns c =
    let t = c.args.self.now in
    let i = c.in_ok-place.place in
    let is : (row_in t.units.now i).state ≡ Standing = search rules in
    let e = hide_accepted t c.args.unit i (sym c.in_ok-place.ensures.ok_part ∙ c.row_place.ensures) is in
    record { told = e.told; held = e.held }
