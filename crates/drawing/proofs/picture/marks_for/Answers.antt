use Rattle.std.proofs.Common.{◌≢◌, ◌∙◌, arith, below_more}
use Rattle.std.proofs.lemmas.List.{length-set, get_or-set_same, get_or-set_other}
use Rattle.structure.specs.declared.Mark.TheVariants.{Unasked}
use Rattle.drawing.proofs.picture.marks_for.Goals as goal

pub loop-place-preserved : goal.loop-place-preserved
loop-place-preserved c = (
  length-set _ _ _ ∙ c.loop-place.invariant.0,
  below_more _ _
      (λ k h. let ne : k ≢ c.loop-place.place = omega arith in get_or-set_other _ _ k _ Unasked ne ∙ c.loop-place.invariant.1 k h)
      (get_or-set_same c.loop-place.mark-items c.loop-place.place _ Unasked (omega (arith, c.loop-place.invariant.0)) ∙ c.mark_for.ensures),
)
