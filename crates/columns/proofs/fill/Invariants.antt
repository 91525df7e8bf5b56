-- The field is written from the place on, and the rest of the number is to come left of it.
use Rattle.std.proofs.Common.{◌≤◌}
use Rattle.columns.proofs.Filling.{Filled}
use Rattle.columns.proofs.fill.Given as goal

abbrev pub invariant-loop-place : goal.invariant-loop-place
invariant-loop-place l = (l.rest ≤ l.number) × Filled l.field l.place l.rest l.number
