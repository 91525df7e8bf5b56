use Rattle.std.proofs.Common.{◌≡◌, ℕ, ◌+◌, List, sym, refl, ◌∙◌, subst, arith}
use Rattle.queue.specs.Waiting.{waits}
use Rattle.drawing.specs.declared.reduction.Reduced.{Reduced}
use Rattle.drawing.specs.Network.{taken_down}
use Rattle.drawing.specs.Reduction.{Seeded}
use Rattle.drawing.proofs.Enlisting.{seeded_none}
use Rattle.drawing.proofs.reduction.Reduction.seed.Goals as goal
use Rattle.drawing.proofs.reduction.Reduction.seed.Goals.{After-seed_material}

pub loop-material-init : goal.loop-material-init
loop-material-init c =
    let p = taken_down c.args.network.now in
    let makers = c.args.self.now.reduced.makers in
    (subst (λ (q : List ℕ). Seeded p makers q 1) (sym c.requires) (seeded_none p makers), refl, omega arith)

-- after a turn, one material more is seeded
turn : (c : After-seed_material) →
    Seeded (taken_down c.args.network.now) c.args.self.now.reduced.makers (waits c.seed_material.new.self.waiting) (c.loop-material.material + 1)
    × (c.seed_material.new.self.reduced ≡ c.args.self.now.reduced)
turn c = (
  subst (λ (r : Reduced). Seeded (taken_down c.args.network.now) r.makers (waits c.seed_material.new.self.waiting) (c.loop-material.material + 1)) c.loop-material.invariant.1 c.seed_material.ensures.after,
  c.seed_material.ensures.same ∙ c.loop-material.invariant.1,
)

pub returns : goal.returns
returns c =
    let e : c.loop-material.material ≡ c.args.network.now.materials + 1 = omega arith in
    record {
      seeded = subst (Seeded (taken_down c.args.network.now) c.args.self.now.reduced.makers (waits c.loop-material.self.waiting)) e c.loop-material.invariant.0;
      same = c.loop-material.invariant.1;
    }

pub returns-2 : goal.returns-2
returns-2 c =
    let e : c.loop-material.material + 1 ≡ c.args.network.now.materials + 1 = omega arith in
    let (seeded, same) = turn (goal.at.returns-2 c).After-seed_material in
    record { seeded = subst (Seeded (taken_down c.args.network.now) c.args.self.now.reduced.makers (waits c.seed_material.new.self.waiting)) e seeded; same = same }
