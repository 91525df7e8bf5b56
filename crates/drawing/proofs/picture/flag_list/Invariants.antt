use Rattle.std.proofs.Common.{◌≡◌, ℕ, true, ◌⊎◌, length, take, Decides}
use Rattle.book.specs.Layers.{names}
use Rattle.structure.specs.Problem.{Member}
use Rattle.drawing.specs.Flags.{flagged}
use Rattle.drawing.proofs.picture.flag_list.Given as goal

abbrev pub invariant-loop-x : goal.invariant-loop-x
invariant-loop-x l =
    (length l.flags ≡ 1025)
    × ((x : ℕ) → Decides (flagged l.flags x) (Member (flagged l.initial.flags) x ⊎ (names x (take l.x-index l.list) ≡ true)))
