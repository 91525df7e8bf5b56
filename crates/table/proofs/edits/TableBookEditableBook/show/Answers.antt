-- The row of a withheld unit gets another state.
use Rattle.std.proofs.Common.{sym, ◌∙◌}
use Rattle.table.proofs.Changes.{show_accepted}
use Rattle.table.proofs.edits.TableBookEditableBook.show.Goals as goal

pub returns : goal.returns
returns c =
    let e = show_accepted c.args.self.now c.args.unit c.in_ok-place.place (sym c.in_ok-place.ensures.ok_part ∙ c.withheld_place.ensures.answer) in
    record { told = e.told; held = e.held }
