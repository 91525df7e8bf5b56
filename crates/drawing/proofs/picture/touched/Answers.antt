use Rattle.std.proofs.Common.{◌≡◌, ℕ, true, ◌⊎◌, List, Decides, subst, sym, ◌∙◌, arith}
use Rattle.std.proofs.lemmas.Bool.{false≢true}
use Rattle.book.specs.Layers.{names}
use Rattle.structure.specs.Problem.{Member}
use Rattle.drawing.specs.Flags.{flagged}
use Rattle.drawing.specs.Network.{taken_down}
use Rattle.drawing.proofs.Touching.{touched_more, touched_same}
use Rattle.drawing.proofs.picture.touched.Goals as goal
use Rattle.drawing.proofs.picture.touched.Goals.{then-units-unit, else-units-unit}

pub loop-unit-init : goal.loop-unit-init
loop-unit-init c = (
  c.no_flags-flags.ensures.long,
  λ x. (λ m. absurd (false≢true (sym (c.no_flags-flags.ensures.each x) ∙ m)), λ w. absurd (omega (arith, c.args.network.now.bounded.units_known w.0 (c.requires w.0 w.2), w.1))),
)

pub loop-unit-preserved : goal.loop-unit-preserved
loop-unit-preserved c =
    let p = taken_down c.args.network.now in
    let u = c.loop-unit.unit in
    let before = c.loop-unit.invariant.1 in
    elim c.if-units-unit.branch [
      | then-units-unit w ↦
          let inputs = subst (λ (xs : List ℕ). (x : ℕ) → Decides (flagged w.flag_list.new.flags x) (Member (flagged c.loop-unit.flags) x ⊎ (names x xs ≡ true))) w.list.ensures.same w.flag_list.ensures in
          let outputs = subst (λ (xs : List ℕ). (x : ℕ) → Decides (flagged w.flag_list-then-units-unit.new.flags x) (Member (flagged w.flag_list.new.flags) x ⊎ (names x xs ≡ true))) w.list-then-units-unit.ensures.same w.flag_list-then-units-unit.ensures in
          simp w.flags-is (w.flag_list-then-units-unit.array_long, touched_more p (flagged c.args.units.now) u (flagged c.loop-unit.flags) before _ _ w.if-units-unit.true inputs outputs)
      | else-units-unit w ↦
          simp w.flags-is (c.loop-unit.invariant.0, touched_same p (flagged c.args.units.now) u (flagged c.loop-unit.flags) before w.if-units-unit.false)
    ]

pub returns : goal.returns
returns c = λ x. (
  λ m. let w = (c.loop-unit.invariant.1 x).0 m in (w.0, w.2, w.3),
  λ w. (c.loop-unit.invariant.1 x).1 (w.0, omega (arith, c.args.network.now.bounded.units_known w.0 (c.requires w.0 w.1)), w.1, w.2),
)
