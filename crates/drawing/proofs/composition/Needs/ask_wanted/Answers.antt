use Rattle.std.proofs.Common.{◌≡◌, ℕ, ◌+◌, ◌<◌, Bool, false, ◌⊎◌, List, get_or, sym, subst, inl, inr, ⊎_elim, arith}
use Rattle.std.proofs.lemmas.Bool.{both_ways, cases_eq}
use Rattle.queue.specs.Waiting.{waits}
use Rattle.structure.specs.Problem.{Member}
use Rattle.drawing.specs.Flags.{flagged}
use Rattle.drawing.specs.Composition.{Asked}
use Rattle.drawing.proofs.Asking.{asked_same, asked_then}
use Rattle.drawing.proofs.composition.Needs.ask_wanted.Goals as goal
use Rattle.drawing.proofs.composition.Needs.ask_wanted.Goals.{Joined-network-x, then-network-x, else-network-x}

-- y is wanted, and below x
abbrev Wanted : List Bool → ℕ → ℕ → Type 0
Wanted wanted x y = (y < x) × Member (flagged wanted) y

more : (wanted : List Bool) (x y : ℕ) → Wanted wanted x y → Wanted wanted (x + 1) y
more wanted x y (h, w) = (omega arith, w)

split : (wanted : List Bool) (x y : ℕ) → Wanted wanted (x + 1) y → Wanted wanted x y ⊎ (y ≡ x)
split wanted x y (h, w) = ⊎_elim (λ (e : y ≡ x). inr e) (λ (e : y ≡ x → ⊥). inl (omega arith, w)) (cases_eq y x)

-- after a turn, one number more was looked at
turn : (c : Joined-network-x) → Asked (Wanted c.args.network.now.wanted (c.loop-x.x + 1)) 1 c.args.self.now.asked (waits c.args.self.now.waiting) c.if-network-x.self.asked (waits c.if-network-x.self.waiting)
turn c =
    let wanted = c.args.network.now.wanted in
    let x = c.loop-x.x in
    elim c.if-network-x.branch [
      | then-network-x w ↦
          let here : (y : ℕ) → y ≡ x → Wanted wanted (x + 1) y = λ y e. subst (Wanted wanted (x + 1)) (sym e) (omega arith, w.if-network-x.true) in
          simp w.self-is (asked_then c.loop-x.invariant w.ask.ensures (Wanted wanted (x + 1)) (more wanted x) here (split wanted x))
      | else-network-x w ↦
          let not : (y : ℕ) → Wanted wanted (x + 1) y → Wanted wanted x y =
          λ y h. ⊎_elim (λ o. o) (λ (e : y ≡ x). absurd (both_ways (get_or wanted x false) w.if-network-x.false (subst (Member (flagged wanted)) e h.1))) (split wanted x y h) in
          simp w.self-is (asked_same c.loop-x.invariant (Wanted wanted (x + 1)) (more wanted x) not)
    ]

pub loop-x-preserved : goal.loop-x-preserved
loop-x-preserved c = turn (goal.at.loop-x-preserved c).Joined-network-x

pub returns-after-network-x : goal.returns-after-network-x
returns-after-network-x c =
    let wanted = c.args.network.now.wanted in
    asked_same (turn (goal.at.returns-after-network-x c).Joined-network-x) (Member (flagged wanted)) (λ y h. h.1) (λ y w. (omega (arith, (c.args.network.now.bounded.wanted_known y w).1), w))
