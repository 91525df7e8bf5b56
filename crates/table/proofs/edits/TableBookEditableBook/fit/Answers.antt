-- Each reason in its order, and the row of the unit where none holds.
use Rattle.std.proofs.Common.{◌≡◌, true, false, rules, sym, ◌∙◌}
use Rattle.book.specs.declared.books.State.TheVariants.{Free}
use Rattle.book.specs.declared.Refusal.TheVariants.{OutOfRange}
use Rattle.book.specs.Declined.{is_free}
use Rattle.book.specs.Edits.{lists_given, fit_edit}
use Rattle.table.specs.Rows.{used, state_in}
use Rattle.table.proofs.Seen.{row_in}
use Rattle.table.proofs.Changes.{lists_fit, refused, fit_outside, fit_bad_list, fit_not_free, fit_accepted}
use Rattle.table.proofs.edits.TableBookEditableBook.fit.Goals as goal

pub returns-in_err-place-clause-told : goal.returns-in_err-place-clause-told
returns-in_err-place-clause-told c =
    let f = lists_given c.args.lists in
    refused c.args.self.now (fit_edit c.args.unit f) OutOfRange c.from_residual.result (search rules)
    (fit_outside c.args.self.now c.args.unit (sym c.in_err-place.ensures.ok_part ∙ c.row_place.ensures) f)

pub returns-then-not-fit-clause-told : goal.returns-then-not-fit-clause-told
returns-then-not-fit-clause-told c =
    let t = c.args.self.now in
    let f = lists_given c.args.lists in
    let bad : lists_fit t f ≡ false = search rules in
    (fit_bad_list t c.args.unit c.in_ok-place.place (sym c.in_ok-place.ensures.ok_part ∙ c.row_place.ensures) f bad, c.materials.ensures.same)

pub returns-then-ne-clause-told : goal.returns-then-ne-clause-told
returns-then-ne-clause-told c =
    let t = c.args.self.now in
    let f = lists_given c.args.lists in
    let i = c.in_ok-place.place in
    let good : lists_fit t f ≡ true = search rules in
    let other : is_free (state_in (used t.materials.now) (row_in t.units.now i)) ≡ false = search rules in
    (fit_not_free t c.args.unit i (sym c.in_ok-place.ensures.ok_part ∙ c.row_place.ensures) f good other, c.materials.ensures.same)

pub returns : goal.returns
returns c =
    let t = c.args.self.now in
    let f = lists_given c.args.lists in
    let i = c.in_ok-place.place in
    let good : lists_fit t f ≡ true = search rules in
    let is : (row_in t.units.now i).state ≡ Free = search rules in
    let e =
    fit_accepted t c.args.unit i (sym c.in_ok-place.ensures.ok_part ∙ c.row_place.ensures) f good
    c.entries_for.result c.entries_for-2.result c.entries_for.ensures c.entries_for-2.ensures is
    in
    rw c.materials.ensures.same (record { told = e.told; held = e.held })
