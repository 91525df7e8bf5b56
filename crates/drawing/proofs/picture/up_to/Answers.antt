use Rattle.std.proofs.Common.{◌≡◌, ℕ, ◌+◌, ◌-◌, ◌<◌, ◌≤◌, Bool, true, false, List, ◌++◌, length, take, drop, replicate, Decides, sym, ap, ◌∙◌, subst, ⊎_elim, arith}
use Rattle.std.proofs.lemmas.List.{get_or-append_right, get_or_append_left, get_or-replicate, get_or-take, get_or-drop, length-take, length-drop, length-replicate}
use Rattle.std.proofs.lemmas.Bool.{cases_lt, both_ways}
use borrow.Rule.Slice.PartMut.{put_mid}
use Rattle.drawing.specs.Flags.{Flags, flagged}
use Rattle.drawing.specs.Picture.{UpTo}
use Rattle.drawing.proofs.picture.up_to.Goals as goal

-- flags of which so many are set from 1 on
module _ (flags : List Bool) (none : Flags flags (λ _. false)) (last : ℕ) where
  first : length (take 1 flags) ≡ 1
  first = omega (arith, length-take 1 flags, none.long)

  pub filled : (k : ℕ) → Decides (flagged (take 1 flags ++ (replicate last true ++ drop last (drop 1 flags))) k) ((1 ≤ k) × (k ≤ last))
  filled k =
      let rest = drop last (drop 1 flags) in
      let tail = replicate last true ++ rest in
      ⊎_elim
      (λ (l : k < 1).
      let unset = get_or_append_left (take 1 flags) tail false k (omega (arith, first)) ∙ (get_or-take 1 flags k false l ∙ none.each k) in
      (λ m. absurd (both_ways (flagged (take 1 flags ++ tail) k) unset m), λ w. absurd (omega (arith, w.0))))
      (λ (l : 1 ≤ k).
      let right = get_or-append_right (take 1 flags) tail 1 k false first l in
      ⊎_elim
      (λ (h : k - 1 < last).
      let set = right ∙ (get_or_append_left (replicate last true) rest false (k - 1) (omega (arith, length-replicate last true)) ∙ get_or-replicate last (k - 1) true false h) in
      (λ _. (l, omega arith), λ _. set))
      (λ (h : last ≤ k - 1).
      let past = get_or-append_right (replicate last true) rest last (k - 1) false (length-replicate last true) h in
      let unset = right ∙ (past ∙ (get_or-drop last (drop 1 flags) (k - 1 - last) false ∙ (get_or-drop 1 flags (last + (k - 1 - last)) false ∙ none.each _))) in
      (λ m. absurd (both_ways (flagged (take 1 flags ++ tail) k) unset m), λ w. absurd (omega (arith, w.1))))
      (cases_lt (k - 1) last))
      (cases_lt k 1)

pub returns : goal.returns
returns c =
    let flags = c.no_flags-flags.result in
    let last = c.args.last in
    let many : last + 1 - 1 ≡ last = omega arith in
    let long : length (take (last + 1 - 1) (drop 1 flags)) ≡ last = omega (arith, length-take (last + 1 - 1) (drop 1 flags), length-drop 1 flags, c.no_flags-flags.ensures.long) in
    let set = c.fill.ensures.after (λ y e. e) ∙ ap (λ (n : ℕ). replicate n true) long in
    let written = ap (λ (n : ℕ). put_mid 1 n flags c.fill.new.self) many ∙ ap (λ (xs : List Bool). take 1 flags ++ (xs ++ drop last (drop 1 flags))) set in
    subst (λ (xs : List Bool). UpTo last (flagged xs)) (sym written) (filled flags c.no_flags-flags.ensures last)
