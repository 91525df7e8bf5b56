-- Outside, nothing is written; inside, the row of the material.
use Rattle.std.proofs.Common.{rules, sym, ◌∙◌}
use Rattle.book.specs.declared.Refusal.TheVariants.{OutOfRange}
use Rattle.book.specs.Edits.{class_edit}
use Rattle.table.proofs.Changes.{refused, class_outside, class_accepted}
use Rattle.table.proofs.edits.TableBookEditableBook.class.Goals as goal

pub returns-in_err-place-clause-told : goal.returns-in_err-place-clause-told
returns-in_err-place-clause-told c =
    let x = c.args.class in
    refused c.args.self.now (class_edit c.args.material x.wanted x.bought) OutOfRange c.from_residual.result (search rules)
    (class_outside c.args.self.now c.args.material x.wanted x.bought (sym c.in_err-place.ensures.ok_part ∙ c.row_place.ensures))

pub returns : goal.returns
returns c =
    let e = class_accepted c.args.self.now c.args.material c.in_ok-place.place (sym c.in_ok-place.ensures.ok_part ∙ c.row_place.ensures) c.args.class in
    record { told = e.told; held = e.held }
