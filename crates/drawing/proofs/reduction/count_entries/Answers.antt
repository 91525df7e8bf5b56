use Rattle.std.proofs.Common.{◌≡◌, ℕ, ◌+◌, ◌<◌, ◌≤◌, eqb, List, [], ◌∷◌, ◌++◌, length, get_or, take, set, ap, ◌∙◌, subst, ⊎_elim, arith}
use Rattle.std.proofs.lemmas.List.{take_more, take_all, length-take, get_or-set_same, get_or-set_other}
use Rattle.std.proofs.lemmas.List.Sums.{count_by-le-length}
use Rattle.std.proofs.lemmas.Bool.{cases_eq}
use Rattle.drawing.specs.Reduction.{times}
use Rattle.drawing.proofs.Arcs.{times_same, times_other}
use Rattle.drawing.proofs.reduction.count_entries.Goals as goal

pub overflow_add-makers : goal.overflow_add-makers
overflow_add-makers c =
    let entries = c.args.entries.now in
    let i = c.loop-x.x-index in
    let x = get_or entries i 0 in
    let few : get_or c.loop-x.makers x 0 ≤ 8208 = omega (arith, c.loop-x.invariant x, c.requires.low x, count_by-le-length (eqb x) (take i entries), length-take i entries, c.requires.few) in
    omega arith

pub loop-x-preserved : goal.loop-x-preserved
loop-x-preserved c y =
    let entries = c.args.entries.now in
    let i = c.loop-x.x-index in
    let x = get_or entries i 0 in
    let ms = c.loop-x.makers in
    let inside : x < length ms = omega (arith, c.requires.placed i) in
    let more : times y (take (i + 1) entries) ≡ times y (take i entries ++ x ∷ []) = ap (times y) (take_more entries i 0 (omega arith)) in
    ⊎_elim
    (λ (e : y ≡ x).
    let after = ap (λ (z : ℕ). get_or (set ms x (get_or ms x 0 + 1)) z 0) e ∙ get_or-set_same ms x (get_or ms x 0 + 1) 0 inside in
    let before = ap (λ (z : ℕ). get_or ms z 0) e in
    omega (arith, c.loop-x.invariant y, more, times_same y (take i entries) x e, after, before))
    (λ (e : y ≡ x → ⊥). omega (arith, c.loop-x.invariant y, more, times_other y (take i entries) x e, get_or-set_other ms x y (get_or ms x 0 + 1) 0 e))
    (cases_eq y x)

pub returns : goal.returns
returns c y =
    subst (λ (xs : List ℕ). get_or c.loop-x.makers y 0 ≡ get_or c.args.makers.now y 0 + times y xs)
    (take_all c.loop-x.x-index c.args.entries.now (omega arith))
    (c.loop-x.invariant y)
