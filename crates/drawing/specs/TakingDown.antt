-- What is read of a book while it is taken down.
use Rattle.std.specs.Prelude.{◌≡◌, ℕ, List, []}
use Rattle.book.specs.Meaning.{Meaning, material_count, unit_count}
use Rattle.book.specs.declared.books.Side.{Side}
use Rattle.book.specs.Asked.{list_on, fitted_at}
use Rattle.structure.specs.Problem.{list_of, problem}
use Rattle.drawing.specs.declared.network.Network.{Network}
use Rattle.drawing.specs.Flags.{Flags}
use Rattle.drawing.specs.Sides.{Holds}

-- the list that a book tells of a number on a side; of a number that does not stand nothing is told
abbrev pub list_told : Side → ℕ → Meaning → List ℕ
list_told side u m = list_of (list_on side) (fitted_at u m)

-- the network n has the numbers of a book that means m, and no list yet
pub record NumbersTold (m : Meaning) (n : Network) : Type 0 where
  pub materials : n.materials ≡ material_count m
  pub units : n.units ≡ unit_count m
  pub wanted : Flags n.wanted (problem m).wanted
  pub bought : Flags n.bought (problem m).bought
  pub standing : Flags n.standing (problem m).standing
  pub no_inputs : Holds n.inputs (λ _. [])
  pub no_outputs : Holds n.outputs (λ _. [])
