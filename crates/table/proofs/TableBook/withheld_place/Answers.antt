-- The state in the row of the number tells it, or there is no row.
use Rattle.std.proofs.Common.{rules, sym, ◌∙◌}
use Rattle.std.proofs.lemmas.Bool.{cond-false}
use Rattle.table.proofs.Changes.{withheld_outside, withheld_told}
use Rattle.table.proofs.TableBook.withheld_place.Goals as goal

pub returns-in_err-place-clause-answer : goal.returns-in_err-place-clause-answer
returns-in_err-place-clause-answer c =
    c.from_residual.ensures ∙ sym (cond-false _ _ _ (withheld_outside c.args.self.now c.args.unit c.in_err-place.ensures))

pub returns-clause-answer : goal.returns-clause-answer
returns-clause-answer c = (search rules) ∙ withheld_told c.args.self.now c.args.unit c.in_ok-place.place c.in_ok-place.ensures
