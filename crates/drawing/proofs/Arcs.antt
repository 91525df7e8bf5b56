-- How often a material stands in a list, and in the outputs of a set of units.
use Rattle.std.proofs.Common.{◌≡◌, ℕ, zero, suc, ◌+◌, ◌*◌, ◌<◌, ◌≤◌, Bool, true, false, cond, eqb, ◌≢◌, List, [], ◌∷◌, ◌++◌, length, refl, ap, ◌∙◌, ⊎_elim, arith}
use Rattle.std.proofs.lemmas.List.Sums.{sum_by-cons, sum_by_push, count_by-le-length}
use Rattle.std.proofs.lemmas.Bool.{eq-eqb, ne_eqb, cases_eq, cases_lt, cases_Bool, cond-true, cond-false, false≢true, or_cases, or_left, or_right}
use Rattle.book.specs.Layers.{names}
use Rattle.structure.specs.Problem.{Numbers, Problem, Member, Makes, MadeIn}
use Rattle.drawing.specs.Reduction.{Among, times, arcs_below}

-- one more entry
pub times_same : (x : ℕ) (xs : List ℕ) (y : ℕ) → x ≡ y → times x (xs ++ y ∷ []) ≡ times x xs + 1
times_same x xs y e = omega (arith, sum_by_push (λ (z : ℕ). cond (eqb x z) 1 0) xs y, cond-true {A = ℕ} (eqb x y) 1 0 (eq-eqb x y e))

pub times_other : (x : ℕ) (xs : List ℕ) (y : ℕ) → (x ≡ y → ⊥) → times x (xs ++ y ∷ []) ≡ times x xs
times_other x xs y e = omega (arith, sum_by_push (λ (z : ℕ). cond (eqb x z) 1 0) xs y, cond-false {A = ℕ} (eqb x y) 1 0 (ne_eqb x y e))

-- what a list names stands in it at least once, and nothing else does
named_times : (x : ℕ) (xs : List ℕ) → Among x xs → 1 ≤ times x xs
named_times x [] h = absurd (false≢true h)
named_times x (y ∷ ys) h =
    ⊎_elim
    (λ (i : eqb x y ≡ true). omega (arith, sum_by-cons (λ (z : ℕ). cond (eqb x z) 1 0) y ys, cond-true {A = ℕ} (eqb x y) 1 0 i))
    (λ (i : Among x ys). omega (arith, sum_by-cons (λ (z : ℕ). cond (eqb x z) 1 0) y ys, named_times x ys i))
    (or_cases (eqb x y) (names x ys) h)

times_named : (x : ℕ) (xs : List ℕ) → 1 ≤ times x xs → Among x xs
times_named x [] h = absurd (omega arith)
times_named x (y ∷ ys) h =
    ⊎_elim
    (λ (i : eqb x y ≡ true). or_left (eqb x y) (names x ys) i)
    (λ (i : eqb x y ≡ false). or_right (eqb x y) (names x ys) (times_named x ys (omega (arith, sum_by-cons (λ (z : ℕ). cond (eqb x z) 1 0) y ys, cond-false {A = ℕ} (eqb x y) 1 0 i))))
    (cases_Bool (eqb x y))

module _ (p : Problem) (x : ℕ) where
  pub arcs_same : (o o' : Numbers) (n : ℕ) → ((u : ℕ) → u < n → o' u ≡ o u) → arcs_below p o' x n ≡ arcs_below p o x n
  arcs_same o o' zero h = refl
  arcs_same o o' (suc n) h =
      let e : cond (o' n) (times x (p.outputs n)) 0 ≡ cond (o n) (times x (p.outputs n)) 0 = ap (λ (b : Bool). cond b (times x (p.outputs n)) 0) (h n (omega arith)) in
      omega (arith, arcs_same o o' n (λ u l. h u (omega arith)), e)

  -- a unit is taken out
  pub arcs_removed : (o o' : Numbers) (v n : ℕ) → v < n → Member o v → o' v ≡ false → ((u : ℕ) → u ≢ v → o' u ≡ o u) →
      arcs_below p o' x n + times x (p.outputs v) ≡ arcs_below p o x n
  arcs_removed o o' v zero l i f h = absurd (omega arith)
  arcs_removed o o' v (suc n) l i f h =
      ⊎_elim
      (λ (e : n ≡ v).
      let before : cond (o n) (times x (p.outputs n)) 0 ≡ times x (p.outputs n) = cond-true (o n) (times x (p.outputs n)) 0 (ap o e ∙ i) in
      let after : cond (o' n) (times x (p.outputs n)) 0 ≡ 0 = cond-false (o' n) (times x (p.outputs n)) 0 (ap o' e ∙ f) in
      omega (arith, before, after, ap (λ (u : ℕ). times x (p.outputs u)) e, arcs_same o o' n (λ u k. h u (λ d. omega arith))))
      (λ (e : n ≡ v → ⊥).
      let same : cond (o' n) (times x (p.outputs n)) 0 ≡ cond (o n) (times x (p.outputs n)) 0 = ap (λ (b : Bool). cond b (times x (p.outputs n)) 0) (h n e) in
      omega (arith, same, arcs_removed o o' v n (omega arith) i f h))
      (cases_eq n v)

  -- a material that some unit of o makes is counted
  pub made_arcs : (o : Numbers) (v n : ℕ) → v < n → Member o v → Makes p v x → 1 ≤ arcs_below p o x n
  made_arcs o v zero l i m = absurd (omega arith)
  made_arcs o v (suc n) l i m =
      ⊎_elim
      (λ (e : n ≡ v).
      let here : cond (o n) (times x (p.outputs n)) 0 ≡ times x (p.outputs n) = cond-true (o n) (times x (p.outputs n)) 0 (ap o e ∙ i) in
      omega (arith, here, ap (λ (u : ℕ). times x (p.outputs u)) e, named_times x (p.outputs v) m))
      (λ (e : n ≡ v → ⊥). omega (arith, made_arcs o v n (omega arith) i m))
      (cases_eq n v)

  -- and nothing else is
  pub arcs_made : (o : Numbers) (n : ℕ) → 1 ≤ arcs_below p o x n → MadeIn p o x
  arcs_made o zero h = absurd (omega arith)
  arcs_made o (suc n) h =
      ⊎_elim
      (λ (z : arcs_below p o x n < 1).
      ⊎_elim
      (λ (i : o n ≡ true). (n, i, times_named x (p.outputs n) (omega (arith, cond-true (o n) (times x (p.outputs n)) 0 i))))
      (λ (i : o n ≡ false). absurd (omega (arith, cond-false (o n) (times x (p.outputs n)) 0 i)))
      (cases_Bool (o n)))
      (λ (k : 1 ≤ arcs_below p o x n). arcs_made o n k)
      (cases_lt (arcs_below p o x n) 1)

  -- lists of at most eight entries give at most eight for each unit
  pub arcs_few : (o : Numbers) (n : ℕ) → ((u : ℕ) → length (p.outputs u) ≤ 8) → arcs_below p o x n ≤ 8 * n
  arcs_few o zero h = omega arith
  arcs_few o (suc n) h =
      let few : times x (p.outputs n) ≤ 8 = omega (arith, count_by-le-length (eqb x) (p.outputs n), h n) in
      let some : cond (o n) (times x (p.outputs n)) 0 ≤ 8 =
      ⊎_elim
      (λ (i : o n ≡ true). omega (arith, cond-true (o n) (times x (p.outputs n)) 0 i))
      (λ (i : o n ≡ false). omega (arith, cond-false (o n) (times x (p.outputs n)) 0 i))
      (cases_Bool (o n)) in
      omega (arith, arcs_few o n h, some)
