-- One more entry is linked. The places from its own on held 0.
use Rattle.std.proofs.Common.{◌≡◌, ℕ, ◌+◌, ◌-◌, ◌<◌, ◌≤◌, List, length, get_or, set, sym, ap, ◌∙◌, subst, ⊎_elim, arith}
use Rattle.std.proofs.lemmas.List.{get_or-set_same, get_or-set_other}
use Rattle.std.proofs.lemmas.Bool.{cases_eq, cases_lt}
use Rattle.drawing.specs.Lists.{LastBelow, Linked}

-- a last place stays the last where the places below the bound hold what they held
last_kept : (old new : List ℕ) (x h n : ℕ) → ((e : ℕ) → e < n → get_or new e 0 ≡ get_or old e 0) → LastBelow old x h n → LastBelow new x h n
last_kept old new x h n same a = record {
  below = a.below;
  there = λ e i. same e (omega (arith, a.below)) ∙ a.there e i;
  none_after = λ e g l q. a.none_after e g l (sym (same e l) ∙ q);
}

module _ (entries links heads : List ℕ) (p x n : ℕ) (a : Linked entries links heads n)
    (empty : (e : ℕ) → p ≤ e → get_or entries e 0 ≡ 0) (some : 1 ≤ x) (within : p < n)
    (in_entries : p < length entries) (in-links : p < length links) (in-heads : x < length heads) where
  here : get_or (set entries p x) p 0 ≡ x
  here = get_or-set_same entries p x 0 in_entries

  other : (e : ℕ) → (e ≡ p → ⊥) → get_or (set entries p x) e 0 ≡ get_or entries e 0
  other e d = get_or-set_other entries p e x 0 d

  -- the material's last place so far is before the new one
  before : get_or heads x 0 ≤ p
  before =
      ⊎_elim
      (λ (l : p < get_or heads x 0).
      let e = get_or heads x 0 - 1 in
      let one : get_or heads x 0 ≡ e + 1 = omega arith in
      absurd (omega (arith, (a.headed x some).there e one, empty e (omega arith))))
      (λ (l : get_or heads x 0 ≤ p). l)
      (cases_lt p (get_or heads x 0))

  own : LastBelow (set entries p x) x (get_or heads x 0) p
  own = last_kept entries (set entries p x) x (get_or heads x 0) p (λ e l. other e (omega arith)) (record {
    below = before;
    there = (a.headed x some).there;
    none_after = λ e g l q. (a.headed x some).none_after e g (omega arith) q;
  })

  link : (e : ℕ) → e < n → 1 ≤ get_or (set entries p x) e 0 → LastBelow (set entries p x) (get_or (set entries p x) e 0) (get_or (set links p (get_or heads x 0)) e 0) e
  link e l i =
      ⊎_elim
      (λ (d : e ≡ p).
      subst (λ (z : ℕ). LastBelow (set entries p x) (get_or (set entries p x) z 0) (get_or (set links p (get_or heads x 0)) z 0) z) (sym d)
      (subst (λ (y : ℕ). LastBelow (set entries p x) y (get_or (set links p (get_or heads x 0)) p 0) p) (sym here)
      (subst (λ (h : ℕ). LastBelow (set entries p x) x h p) (sym (get_or-set_same links p (get_or heads x 0) 0 in-links)) own)))
      (λ (d : e ≡ p → ⊥).
      let j : 1 ≤ get_or entries e 0 = omega (arith, other e d) in
      let low : e < p = ⊎_elim (λ (s : e < p). s) (λ (s : p ≤ e). absurd (omega (arith, empty e s))) (cases_lt e p) in
      subst (λ (y : ℕ). LastBelow (set entries p x) y (get_or (set links p (get_or heads x 0)) e 0) e) (sym (other e d))
      (subst (λ (h : ℕ). LastBelow (set entries p x) (get_or entries e 0) h e) (sym (get_or-set_other links p e (get_or heads x 0) 0 d))
      (last_kept entries (set entries p x) (get_or entries e 0) (get_or links e 0) e (λ f s. other f (omega arith)) (a.linked e l j))))
      (cases_eq e p)

  head_own : LastBelow (set entries p x) x (p + 1) n
  head_own = record {
    below = omega arith;
    there = λ e i. let d : e ≡ p = omega arith in ap (λ (z : ℕ). get_or (set entries p x) z 0) d ∙ here;
    none_after = λ e g l q. omega (arith, other e (omega arith), empty e (omega arith));
  }

  head_other : (y : ℕ) → 1 ≤ y → (y ≡ x → ⊥) → LastBelow (set entries p x) y (get_or heads y 0) n
  head_other y s c = record {
    below = (a.headed y s).below;
    there = λ e i.
        ⊎_elim
        (λ (d : e ≡ p). absurd (omega (arith, (a.headed y s).there e i, empty e (omega arith))))
        (λ (d : e ≡ p → ⊥). other e d ∙ (a.headed y s).there e i)
        (cases_eq e p);
    none_after = λ e g l q.
        ⊎_elim
        (λ (d : e ≡ p). c (sym q ∙ (ap (λ (z : ℕ). get_or (set entries p x) z 0) d ∙ here)))
        (λ (d : e ≡ p → ⊥). (a.headed y s).none_after e g l (sym (other e d) ∙ q))
        (cases_eq e p);
  }

  head : (y : ℕ) → 1 ≤ y → LastBelow (set entries p x) y (get_or (set heads x (p + 1)) y 0) n
  head y s =
      ⊎_elim
      (λ (c : y ≡ x).
      subst (λ (z : ℕ). LastBelow (set entries p x) z (get_or (set heads x (p + 1)) z 0) n) (sym c)
      (subst (λ (h : ℕ). LastBelow (set entries p x) x h n) (sym (get_or-set_same heads x (p + 1) 0 in-heads)) head_own))
      (λ (c : y ≡ x → ⊥). subst (λ (h : ℕ). LastBelow (set entries p x) y h n) (sym (get_or-set_other heads x y (p + 1) 0 c)) (head_other y s c))
      (cases_eq y x)

  pub linked_more : Linked (set entries p x) (set links p (get_or heads x 0)) (set heads x (p + 1)) n
  linked_more = record { linked = link; headed = head }

-- where no place holds a material, nothing is linked
pub linked_none : (entries links heads : List ℕ) (n : ℕ) → ((e : ℕ) → get_or entries e 0 ≡ 0) → ((x : ℕ) → get_or heads x 0 ≡ 0) → Linked entries links heads n
linked_none entries links heads n empty none = record {
  linked = λ e l i. absurd (omega (arith, empty e));
  headed = λ x s. record {
    below = omega (arith, none x);
    there = λ e i. absurd (omega (arith, none x));
    none_after = λ e g l q. omega (arith, empty e);
  };
}
