use Rattle.std.proofs.Common.{◌≡◌, ℕ, ◌+◌, get_or, take}
use Rattle.drawing.specs.Reduction.{times}
use Rattle.drawing.proofs.reduction.count_entries.Given as goal

abbrev pub invariant-loop-x : goal.invariant-loop-x
invariant-loop-x l = (x : ℕ) → get_or l.makers x 0 ≡ get_or l.initial.makers x 0 + times x (take l.x-index l.entries)
