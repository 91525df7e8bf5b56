-- The row of a withheld unit is emptied.
use Rattle.std.proofs.Common.{sym, ◌∙◌}
use Rattle.table.proofs.Changes.{clear_accepted}
use Rattle.table.proofs.edits.TableBookEditableBook.clear.Goals as goal

pub returns : goal.returns
returns c =
    let e = clear_accepted c.args.self.now c.args.unit c.in_ok-place.place (sym c.in_ok-place.ensures.ok_part ∙ c.withheld_place.ensures.answer) in
    record { told = e.told; held = e.held }
