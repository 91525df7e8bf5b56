-- The place is the one after the last of the unit's entries.
use Rattle.drawing.proofs.Pushing.{walkable_more, lists_more}
use Rattle.drawing.proofs.lists.SideLists.push.Goals as goal

pub invariant_of-self : goal.invariant_of-self
invariant_of-self c = record { walkable = walkable_more c.args.self.now c.args.unit c.args.material c.requires.known c.requires.some c.requires.small c.requires.room c.requires.last }

pub returns : goal.returns
returns c = lists_more c.args.self.now c.args.unit c.args.material c.requires.known c.requires.some c.requires.small c.requires.room c.requires.last
