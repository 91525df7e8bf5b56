-- One entry is taken out of the counts.
use Rattle.std.proofs.Common.{◌≡◌, ℕ, ◌+◌, ◌-◌, ◌<◌, ◌≤◌, cond, eqb, ◌⊎◌, List, [], ◌∷◌, ◌++◌, length, get_or, set, sym, refl, ap, ◌∙◌, subst, inl, inr, ⊎_elim, arith}
use Rattle.std.proofs.lemmas.List.{length-set, length_push, get_or-set_same, get_or-set_other, get_or_past}
use Rattle.std.proofs.lemmas.List.Sums.{sum_by-set, count_by-le-length}
use Rattle.std.proofs.lemmas.Bool.{eq-eqb, ne_eqb, cases_eq, cases_lt, cond-true, cond-false}
use Rattle.drawing.specs.Reduction.{Among, times, zeros, Released}
use Rattle.drawing.proofs.Entries.{names_kept, names_last, names_pushed}
use Rattle.drawing.proofs.Arcs.{times_same, times_other}

-- one less at the place of x
abbrev pub one_less : List ℕ → ℕ → List ℕ
one_less ms x = set ms x (get_or ms x 0 - 1)

module _ (ms : List ℕ) (x : ℕ) (some : 1 ≤ get_or ms x 0) where
  pub inside : x < length ms
  inside = ⊎_elim (λ (l : x < length ms). l) (λ (l : length ms ≤ x). absurd (omega (arith, get_or_past ms x 0 l))) (cases_lt x (length ms))

  less_here : get_or (one_less ms x) x 0 ≡ get_or ms x 0 - 1
  less_here = get_or-set_same ms x (get_or ms x 0 - 1) 0 inside

  same_else : (y : ℕ) → (y ≡ x → ⊥) → get_or (one_less ms x) y 0 ≡ get_or ms y 0
  same_else y e = get_or-set_other ms x y (get_or ms x 0 - 1) 0 e

  not_zero : cond {A = ℕ} (eqb 0 (get_or ms x 0)) 1 0 ≡ 0
  not_zero = cond-false (eqb 0 (get_or ms x 0)) 1 0 (ne_eqb 0 (get_or ms x 0) (λ e. omega (arith, e)))

  change : zeros (one_less ms x) + cond {A = ℕ} (eqb 0 (get_or ms x 0)) 1 0 ≡ zeros ms + cond {A = ℕ} (eqb 0 (get_or ms x 0 - 1)) 1 0
  change = sum_by-set (λ (y : ℕ). cond (eqb 0 y) 1 0) ms x (get_or ms x 0 - 1) 0 inside

  -- one place at least is not 0
  pub zeros_below : zeros ms < length ms
  zeros_below = omega (arith, sum_by-set (λ (y : ℕ). cond (eqb 0 y) 1 0) ms x 0 0 inside, not_zero, count_by-le-length (eqb 0) (set ms x 0), length-set ms x 0)

  zeros_kept : zeros ms ≤ zeros (one_less ms x)
  zeros_kept = omega (arith, change, not_zero)

  zeros_more : get_or ms x 0 - 1 ≡ 0 → zeros (one_less ms x) ≡ zeros ms + 1
  zeros_more z = omega (arith, change, not_zero, cond-true {A = ℕ} (eqb 0 (get_or ms x 0 - 1)) 1 0 (eq-eqb 0 (get_or ms x 0 - 1) (sym z)))

-- the entries `done` are out, and x is the next
module _ {done ms q ms₁ q₁ : List ℕ} (x : ℕ) (r : Released done ms q ms₁ q₁) (enough : times x (done ++ x ∷ []) ≤ get_or ms x 0) where
  pub some_left : 1 ≤ get_or ms₁ x 0
  some_left = omega (arith, r.counts x, times_same x done x refl, enough)

  counted : (y : ℕ) → get_or (one_less ms₁ x) y 0 + times y (done ++ x ∷ []) ≡ get_or ms y 0
  counted y =
      ⊎_elim
      (λ (e : y ≡ x).
      let after = ap (λ (z : ℕ). get_or (one_less ms₁ x) z 0) e in
      let before = ap (λ (z : ℕ). get_or ms₁ z 0) e in
      omega (arith, r.counts y, times_same y done x e, some_left, less_here ms₁ x some_left, after, before))
      (λ (e : y ≡ x → ⊥). omega (arith, r.counts y, times_other y done x e, same_else ms₁ x some_left y e))
      (cases_eq y x)

  still_long : length (one_less ms₁ x) ≡ length ms
  still_long = length-set ms₁ x (get_or ms₁ x 0 - 1) ∙ r.long

  -- what had no maker is not the one that lost one
  still_zero : (y : ℕ) → get_or ms₁ y 0 ≡ 0 → get_or (one_less ms₁ x) y 0 ≡ 0
  still_zero y z =
      ⊎_elim
      (λ (e : y ≡ x). absurd (omega (arith, some_left, ap (λ (k : ℕ). get_or ms₁ k 0) e)))
      (λ (e : y ≡ x → ⊥). same_else ms₁ x some_left y e ∙ z)
      (cases_eq y x)

  still : (y : ℕ) → Among y q₁ → Among y q ⊎ ((get_or (one_less ms₁ x) y 0 ≡ 0) × Among y (done ++ x ∷ []))
  still y i = ⊎_elim (λ a. inl a) (λ a. inr (still_zero y a.0, names_kept y x done a.1)) (r.added y i)

  before : (y : ℕ) → (y ≡ x → ⊥) → get_or (one_less ms₁ x) y 0 ≡ 0 → (get_or ms y 0 ≡ 0) ⊎ Among y q₁
  before y e z = r.all y (sym (same_else ms₁ x some_left y e) ∙ z)

  -- others make it still
  pub released_kept : (get_or (one_less ms₁ x) x 0 ≡ 0 → ⊥) → Released (done ++ x ∷ []) ms q (one_less ms₁ x) q₁
  released_kept not =
      record {
        counts = counted;
        long = still_long;
        grown = omega (arith, r.grown, zeros_kept ms₁ x some_left);
        kept = r.kept;
        added = still;
        all = λ y z.
            ⊎_elim
            (λ (e : y ≡ x). absurd (not (ap (λ (k : ℕ). get_or (one_less ms₁ x) k 0) (sym e) ∙ z)))
            (λ (e : y ≡ x → ⊥). before y e z)
            (cases_eq y x);
      }

  -- that was the last, so it waits
  pub released_last : get_or (one_less ms₁ x) x 0 ≡ 0 → Released (done ++ x ∷ []) ms q (one_less ms₁ x) (q₁ ++ x ∷ [])
  released_last gone =
      record {
        counts = counted;
        long = still_long;
        grown = omega (arith, r.grown, zeros_more ms₁ x some_left (sym (less_here ms₁ x some_left) ∙ gone), length_push q₁ x);
        kept = λ y i. names_kept y x q₁ (r.kept y i);
        added = λ y i.
            ⊎_elim
            (still y)
            (λ (e : y ≡ x). inr (ap (λ (k : ℕ). get_or (one_less ms₁ x) k 0) e ∙ gone, subst (λ (k : ℕ). Among k (done ++ x ∷ [])) (sym e) (names_last x done)))
            (names_pushed y x q₁ i);
        all = λ y z.
            ⊎_elim
            (λ (e : y ≡ x). inr (subst (λ (k : ℕ). Among k (q₁ ++ x ∷ [])) (sym e) (names_last x q₁)))
            (λ (e : y ≡ x → ⊥). ⊎_elim (λ a. inl a) (λ a. inr (names_kept y x q₁ a)) (before y e z))
            (cases_eq y x);
      }
