use Rattle.std.proofs.Common.{ℕ, sym, subst}
use Rattle.drawing.specs.Lists.{LastBelow}
use Rattle.drawing.proofs.Walks.{walk_names, names_walk}
use Rattle.drawing.proofs.lists.SideLists.units_with.Goals as goal

pub returns : goal.returns
returns c =
    let s = c.args.self.now in
    let x = c.args.material in
    let last = subst (λ (h : ℕ). LastBelow s.entries x h 8200) (sym c.linked_place.ensures) (s.walkable.chained.headed x c.requires.some) in
    λ u. (walk_names s x c.requires.some c.linked_place.result last u, names_walk s x c.requires.some c.linked_place.result last u)
