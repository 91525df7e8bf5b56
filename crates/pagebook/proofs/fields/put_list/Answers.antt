-- Each turn adds a number to the fields.
use Rattle.std.proofs.Common.{ℕ, ◌*◌, ◌<◌, List, get_or, ap, ◌∙◌, arith}
use Rattle.std.specs.List.{AllByRecursion}
use Rattle.std.proofs.ByRecursion.{All-from_get_or}
use Rattle.columns.specs.Columns.{column}
use Rattle.pagebook.specs.Writes.{over}
use Rattle.pagebook.proofs.Filling.{list_step}
use Rattle.pagebook.proofs.fields.put_list.Goals as goal

-- numbers of sixteen bits have at most five digits
small : (xs : List ℕ) → ((i : ℕ) → get_or xs i 0 < 65536) → AllByRecursion (λ x. x < 100000) xs
small xs each = All-from_get_or (λ x. x < 100000) xs 0 (λ i h. omega (arith, each i))

pub loop-place-preserved : goal.loop-place-preserved
loop-place-preserved c =
    let xs = c.args.list.now in
    let i = c.loop-place.place in
    c.put_number.ensures
    ∙ (ap (over (5 * i) (column 5 (get_or xs i 0))) c.loop-place.invariant
    ∙ list_step xs i c.requires.few (small xs (λ j. omega (arith, c.type_inv.list j))) c.loop-place-test.true)
