-- Materials are asked for, one after the other.
use Rattle.std.proofs.Common.{◌≡◌, ℕ, ◌+◌, ◌<◌, Bool, true, false, cond, ◌⊎◌, List, [], ◌∷◌, ◌++◌, length, set, sym, refl, ap, ◌∙◌, subst, inl, inr, ⊎_elim, arith}
use Rattle.std.proofs.lemmas.List.{append_assoc, length-set, length-append, get_or-set_same, get_or-set_other}
use Rattle.std.proofs.lemmas.List.Sums.{sum_by-set, count_by-le-length}
use Rattle.std.proofs.lemmas.Bool.{both_ways, cases_eq, cond-false}
use Rattle.structure.specs.Problem.{Member, Within}
use Rattle.drawing.specs.declared.composition.Need.{Need}
use Rattle.drawing.specs.Flags.{flagged}
use Rattle.drawing.specs.Composition.{Among, Awaited, asked_for, Asked}
use Rattle.drawing.proofs.Queued.{among_cases, awaited_left, awaited_right, level_append}

-- a flag is set
module _ (asked : List Bool) (x : ℕ) (inside : x < length asked) where
  pub set_here : Member (flagged (set asked x true)) x
  set_here = get_or-set_same asked x true false inside

  pub set_keeps : Within (flagged asked) (flagged (set asked x true))
  set_keeps y i =
      ⊎_elim (λ (e : y ≡ x). subst (Member (flagged (set asked x true))) (sym e) set_here)
      (λ (e : y ≡ x → ⊥). get_or-set_other asked x y true false e ∙ i) (cases_eq y x)

  pub set_cases : (y : ℕ) → Member (flagged (set asked x true)) y → Member (flagged asked) y ⊎ (y ≡ x)
  set_cases y i =
      ⊎_elim (λ (e : y ≡ x). inr e)
      (λ (e : y ≡ x → ⊥). inl (sym (get_or-set_other asked x y true false e) ∙ i)) (cases_eq y x)

  module _ (not : flagged asked x ≡ false) where
    pub one_more : asked_for (set asked x true) ≡ asked_for asked + 1
    one_more = omega (arith, sum_by-set (λ (b : Bool). cond b 1 0) asked x true false inside, cond-false {A = ℕ} (flagged asked x) 1 0 not)

    pub not_all : asked_for asked < length asked
    not_all = omega (arith, one_more, count_by-le-length (λ (b : Bool). b) (set asked x true), length-set asked x true)

-- a material that was not asked for is
pub asked_now : (y r : ℕ) (asked : List Bool) (q : List Need) → y < length asked → flagged asked y ≡ false → Asked (λ x. x ≡ y) r asked q (set asked y true) (q ++ record { material = y; rank = r } ∷ [])
asked_now y r asked q inside not = record {
  added = n ∷ [];
  behind = refl;
  of_rank = (refl, tt);
  new = new;
  kept = set_keeps asked y inside;
  covered = λ x e. subst (Member (flagged (set asked y true))) (sym e) (set_here asked y inside);
  told = λ x i. ⊎_elim inl (λ (e : x ≡ y). inr (n, inl refl, sym e)) (set_cases asked y inside x i);
  counted = one_more asked y inside not;
}
  where
    n : Need
    n = record { material = y; rank = r }

    new : (m : Need) → Among m (n ∷ []) → (m.material ≡ y) × (Member (flagged asked) m.material → ⊥)
    new m (inl e) =
        let is : m.material ≡ y = ap (λ (z : Need). z.material) e in
        (is, λ i. both_ways (flagged asked y) not (subst (Member (flagged asked)) is i))
    new m (inr i) = absurd i

module _ {Sought : ℕ → Type 0} {r : ℕ} {asked : List Bool} {q : List Need} {asked₁ : List Bool} {q₁ : List Need} (a : Asked Sought r asked q asked₁ q₁) where
  -- as many more wait as were asked for
  pub added_equally : length q₁ + asked_for asked ≡ length q + asked_for asked₁
  added_equally = omega (arith, ap length a.behind, length-append q a.added, a.counted)

  -- the same was sought in other words
  pub asked_same : (All : ℕ → Type 0) → ((x : ℕ) → Sought x → All x) → ((x : ℕ) → All x → Sought x) → Asked All r asked q asked₁ q₁
  asked_same All to back = record {
    added = a.added;
    behind = a.behind;
    of_rank = a.of_rank;
    new = λ n i. (to n.material (a.new n i).0, (a.new n i).1);
    kept = a.kept;
    covered = λ x s. a.covered x (back x s);
    told = a.told;
    counted = a.counted;
  }

  -- then more was sought
  pub asked_then : {More : ℕ → Type 0} {asked₂ : List Bool} {q₂ : List Need} → Asked More r asked₁ q₁ asked₂ q₂ → (All : ℕ → Type 0) → ((x : ℕ) → Sought x → All x) → ((x : ℕ) → More x → All x) → ((x : ℕ) → All x → Sought x ⊎ More x) → Asked All r asked q asked₂ q₂
  asked_then b All to more back = record {
    added = a.added ++ b.added;
    behind = b.behind ∙ (ap (λ (l : List Need). l ++ b.added) a.behind ∙ append_assoc q a.added b.added);
    of_rank = level_append r a.added b.added a.of_rank b.of_rank;
    new = λ n i. ⊎_elim
        (λ j. (to n.material (a.new n j).0, (a.new n j).1))
        (λ j. (more n.material (b.new n j).0, λ o. (b.new n j).1 (a.kept n.material o)))
        (among_cases n a.added b.added i);
    kept = λ x i. b.kept x (a.kept x i);
    covered = λ x s. ⊎_elim (λ o. b.kept x (a.covered x o)) (b.covered x) (back x s);
    told = λ x i. ⊎_elim
        (λ o. ⊎_elim inl (λ (w : Awaited a.added x). inr (awaited_left a.added b.added x w)) (a.told x o))
        (λ (w : Awaited b.added x). inr (awaited_right a.added b.added x w))
        (b.told x i);
    counted = omega (arith, a.counted, b.counted, length-append a.added b.added);
  }
