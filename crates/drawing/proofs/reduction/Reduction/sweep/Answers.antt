use Rattle.std.proofs.Common.{ℕ, Bool, List, refl, ap, subst, arith}
use Rattle.structure.specs.Problem.{Member}
use Rattle.queue.specs.Waiting.{waits}
use Rattle.drawing.specs.Flags.{flagged}
use Rattle.drawing.specs.Sides.{list_at}
use Rattle.drawing.specs.Network.{taken_down}
use Rattle.drawing.specs.Reduction.{times, Released}
use Rattle.drawing.specs.Units.{units_left}
use Rattle.drawing.proofs.Walks.{Naming, Past, naming_first, naming_next, past_next}
use Rattle.drawing.proofs.Reducing.{still_live, taken_up, removed_counts, reducing_removed, reducing_same}
use Rattle.drawing.proofs.reduction.Reduction.sweep.Goals as goal

pub units_with-unit-items-requires-clause-some : goal.units_with-unit-items-requires-clause-some
units_with-unit-items-requires-clause-some c = (taken_up c.requires).some

pub units_with-unit-items-requires-clause-known : goal.units_with-unit-items-requires-clause-known
units_with-unit-items-requires-clause-known c = omega (arith, c.args.network.now.few_materials, (taken_up c.requires).known)

pub release-requires-clause-counted : goal.release-requires-clause-counted
release-requires-clause-counted c =
    let n = c.args.network.now in
    let v = c.in-Some.unit in
    let t = c.loop-unit.invariant.0 in
    let takes = naming_first n.inputs c.args.material v (units_left c.next.new.self) (subst (Naming n.inputs c.args.material) c.in-Some.ensures.steps c.loop-unit.invariant.2) in
    λ x. omega (arith, t.counted x, ap (times x) c.list.ensures.same, removed_counts (taken_down n) n.bounded t v c.if-self-unit.true takes x)

pub loop-unit-preserved-then-self-unit : goal.loop-unit-preserved-then-self-unit
loop-unit-preserved-then-self-unit c =
    let n = c.args.network.now in
    let m = c.args.material in
    let v = c.in-Some.unit in
    let left = units_left c.next.new.self in
    let live = c.loop-unit.self.reduced.live in
    let ms = c.loop-unit.self.reduced.makers in
    let q = waits c.loop-unit.self.waiting in
    let live' = c.release.new.self.reduced.live in
    let ms' = c.release.new.self.reduced.makers in
    let q' = waits c.release.new.self.waiting in
    let t = c.loop-unit.invariant.0 in
    let Dead : List Bool → ℕ → Type 0 = λ l u. Member (flagged l) u → ⊥ in
    let naming = subst (Naming n.inputs m) c.in-Some.ensures.steps c.loop-unit.invariant.2 in
    let past = subst (λ (us : List ℕ). Past n.inputs m us (Dead live)) c.in-Some.ensures.steps c.loop-unit.invariant.3 in
    let was = c.if-self-unit.true in
    let r : Released (list_at n.outputs v) ms q ms' q' = subst (λ (xs : List ℕ). Released xs ms q ms' q') c.list.ensures.same c.release.ensures.done in
    let fewer = λ (u : ℕ) (s : Member (flagged live') u). still_live live v was u (subst (λ (l : List Bool). Member (flagged l) u) c.release.ensures.same s) in (
      reducing_same c.release.ensures.same refl refl (reducing_removed (taken_down n) n.bounded t v was (naming_first n.inputs m v left naming) r),
      omega (arith, r.grown, c.loop-unit.invariant.1),
      naming_next n.inputs m v left naming,
      past_next n.inputs m v left (Dead live) (Dead live') past (λ u d s. d (fewer u s).0) (λ s. (fewer v s).1 refl),
    )
