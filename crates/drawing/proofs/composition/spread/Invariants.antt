use Rattle.std.proofs.Common.{◌≡◌, ℕ, ◌+◌, ◌-◌, ◌≤◌, length}
use Rattle.queue.specs.Waiting.{waits}
use Rattle.drawing.specs.Flags.{flagged}
use Rattle.drawing.specs.Network.{taken_down}
use Rattle.drawing.specs.Composition.{Spreading, asked_for}
use Rattle.drawing.proofs.composition.spread.Given as goal

abbrev pub invariant-loop-need : goal.invariant-loop-need
invariant-loop-need l =
    ((r : ℕ) × Spreading (taken_down l.network) (flagged l.live) l.needs.asked l.ranks (waits l.needs.waiting) r × (r + length (waits l.needs.waiting) ≤ 1 + asked_for l.needs.asked)) ×
    (length l.ranks ≡ 1025)

-- each material is asked for once, and what was asked for waits once
abbrev pub decreases-loop-need : goal.decreases-loop-need
decreases-loop-need l = length (waits l.needs.waiting) + (1025 - asked_for l.needs.asked)
