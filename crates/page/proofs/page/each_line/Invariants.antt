-- No answer so far is a fault.
use Rattle.std.proofs.Common.{ℕ, ◌<◌, ◌≤◌, Ok}
use Rattle.page.proofs.page.each_line.Given as goal

abbrev pub invariant-loop-number : goal.invariant-loop-number
invariant-loop-number g l = (k : ℕ) → 1 ≤ k → k < l.number → goal.F-post g l.check_line k (Ok tt)
