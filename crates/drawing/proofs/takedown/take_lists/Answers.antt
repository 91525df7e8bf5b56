-- Both sides are read of the same book, which has not changed.
use Rattle.std.proofs.Common.{sym, subst}
use Rattle.structure.specs.Problem.{Bounded}
use Rattle.structure.proofs.Bounds.{problem_bounded}
use Rattle.book.specs.declared.books.Side.TheVariants.{Outputs}
use Rattle.drawing.specs.Sides.{Holds}
use Rattle.drawing.specs.TakingDown.{list_told}
use Rattle.drawing.proofs.TakingDown.{Read, problem_seen}
use Rattle.drawing.proofs.takedown.take_lists.Given as given
use Rattle.drawing.proofs.takedown.take_lists.Goals as goal
use Rattle.drawing.proofs.takedown.take_lists.Goals.{After-read_lists-2}

-- what was read is what the book tells
read : (g : given.Over) (c : After-read_lists-2 g) →
    let n = c.args.network.now in
    Read (g.B.Book.meaning c.args.book.now) n.materials n.units n.wanted n.bought n.standing c.read_lists.new.lists c.read_lists-2.new.lists
read g c = record {
  materials_told = c.requires.materials;
  units_told = c.requires.units;
  wanted_read = c.requires.wanted;
  bought_read = c.requires.bought;
  standing_read = c.requires.standing;
  inputs_read = c.read_lists.ensures.held;
  outputs_read = subst (λ b. Holds c.read_lists-2.new.lists (λ u. list_told Outputs u (g.B.Book.meaning b))) c.read_lists.ensures.same c.read_lists-2.ensures.held;
}

pub invariant_of-network : goal.invariant_of-network
invariant_of-network g c =
    let n = c.args.network.now in
    record {
      few_materials = n.few_materials;
      few_units = n.few_units;
      bounded = subst Bounded (sym (problem_seen (read g c))) (problem_bounded (g.B.Book.meaning c.args.book.now) (g.B.Book.laws.well_formed c.args.book.now));
    }
