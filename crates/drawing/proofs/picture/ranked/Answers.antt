use Rattle.std.proofs.Common.{◌<◌, ◌≤◌, false, ltb, sym, ap, ◌∙◌, ⊎_elim, arith}
use Rattle.std.proofs.lemmas.List.{get_or_past}
use Rattle.std.proofs.lemmas.Bool.{cases_lt}
use Rattle.drawing.proofs.picture.ranked.Goals as goal

pub returns : goal.returns
returns c = record {
  long = c.loop-unit.invariant.0;
  each = λ u. ⊎_elim
      (λ (h : u < 1025). c.loop-unit.invariant.1 u (omega arith))
      (λ (h : 1025 ≤ u). get_or_past c.loop-unit.flags u false (omega (arith, c.loop-unit.invariant.0)) ∙ sym (ap (ltb 0) (get_or_past c.args.ranks.now u 0 (omega arith))))
      (cases_lt u 1025);
}
