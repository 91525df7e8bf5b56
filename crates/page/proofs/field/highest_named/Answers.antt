-- A letter that is read as no state is neither of the two.
use Rattle.std.proofs.Common.{rules}
use Rattle.page.proofs.FirstLetter.{no_state}
use Rattle.page.proofs.field.highest_named.Goals as goal

pub returns-in-Some-Withheld-2-clause-told : goal.returns-in-Some-Withheld-2-clause-told
returns-in-Some-Withheld-2-clause-told c = search (rules, no_state)
