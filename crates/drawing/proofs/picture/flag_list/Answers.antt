use Rattle.std.proofs.Common.{◌≡◌, ℕ, ◌+◌, ◌<◌, length, get_or, take, sym, ap, ◌∙◌, inl, inr, ⊎_elim, arith}
use Rattle.std.proofs.lemmas.List.{length-set, take_all}
use Rattle.book.specs.Layers.{names}
use Rattle.drawing.proofs.Flagging.{flag_more}
use Rattle.drawing.proofs.Entries.{taken_kept, taken_here, taken_cases}
use Rattle.drawing.proofs.picture.flag_list.Goals as goal

pub loop-x-preserved : goal.loop-x-preserved
loop-x-preserved c =
    let xs = c.args.list.now in
    let i = c.loop-x.x-index in
    let inside : i < length xs = omega arith in
    let more = λ (y : ℕ). flag_more c.loop-x.flags (get_or xs i 0) y (omega (arith, c.loop-x.invariant.0, c.requires i)) in (
      length-set _ _ _ ∙ c.loop-x.invariant.0,
      λ y. (
        λ m. ⊎_elim
            (λ old. ⊎_elim inl (λ h. inr (taken_kept xs i inside y h)) ((c.loop-x.invariant.1 y).0 old))
            (λ (e : get_or xs i 0 ≡ y). inr (ap (λ z. names z (take (i + 1) xs)) (sym e) ∙ taken_here xs i inside))
            ((more y).0 m),
        λ w. (more y).1 (⊎_elim
            (λ old. inl ((c.loop-x.invariant.1 y).1 (inl old)))
            (λ h. ⊎_elim (λ k. inl ((c.loop-x.invariant.1 y).1 (inr k))) (λ (e : y ≡ get_or xs i 0). inr (sym e)) (taken_cases xs i inside y h))
            w),
      ),
    )

pub returns : goal.returns
returns c y =
    let xs = c.args.list.now in
    let all = take_all c.loop-x.x-index xs (omega arith) in (
      λ m. ⊎_elim inl (λ h. inr (sym (ap (names y) all) ∙ h)) ((c.loop-x.invariant.1 y).0 m),
      λ w. (c.loop-x.invariant.1 y).1 (⊎_elim inl (λ h. inr (ap (names y) all ∙ h)) w),
    )
