-- what is left of the list climbs from the last number on exactly if the list climbs
use Rattle.std.proofs.Common.{◌≡◌, drop}
use Rattle.book.specs.Declined.{climbs}
use Rattle.book.proofs.lists.is_climbing.Given as goal

abbrev pub invariant-loop-number : goal.invariant-loop-number
invariant-loop-number l = climbs l.last l.highest (drop l.number-index l.list) ≡ climbs 0 l.highest l.list
