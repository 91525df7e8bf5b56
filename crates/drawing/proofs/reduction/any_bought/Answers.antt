use Rattle.std.proofs.Common.{get_or, sym, refl, ap, ◌∙◌, arith}
use Rattle.std.proofs.lemmas.Bool.{false≢true, both_ways}
use Rattle.drawing.specs.Flags.{flagged}
use Rattle.drawing.proofs.Members.{names_place, place_names}
use Rattle.drawing.proofs.reduction.any_bought.Goals as goal

pub returns-then-bought-x : goal.returns-then-bought-x
returns-then-bought-x c =
    let entries = c.args.entries.now in
    let x = get_or entries c.loop-x.x-index 0 in
    ((λ _. (x, place_names x entries c.loop-x.x-index (omega arith) refl, c.if-bought-x.true)), (λ _. refl))

pub returns : goal.returns
returns c = (
  (λ e. absurd (false≢true e)),
  (λ h.
      let w = names_place h.0 c.args.entries.now h.1 in
      absurd (both_ways (flagged c.args.bought.now h.0) (ap (flagged c.args.bought.now) (sym w.2) ∙ c.loop-x.invariant w.0 (omega (arith, w.1))) h.2)),
)
