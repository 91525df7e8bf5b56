-- Flags of what the units below a number take and make.
use Rattle.std.proofs.Common.{◌≡◌, ℕ, ◌+◌, ◌<◌, false, ◌⊎◌, Decides, subst, inl, inr, ⊎_elim, arith}
use Rattle.std.proofs.lemmas.Bool.{cases_eq, both_ways}
use Rattle.structure.specs.Problem.{Numbers, Member, Problem, Takes, Makes}

-- some unit of o below n takes x or makes it
abbrev pub TouchedBelow : Problem → Numbers → ℕ → ℕ → Type 0
TouchedBelow p o n x = (u : ℕ) × (u < n) × Member o u × (Takes p u x ⊎ Makes p u x)

module _ (p : Problem) (o : Numbers) (n : ℕ) (flags : Numbers) (before : (x : ℕ) → Decides (flags x) (TouchedBelow p o n x)) where
  one_more : (x : ℕ) → TouchedBelow p o n x → TouchedBelow p o (n + 1) x
  one_more x (u, h, i, t) = (u, omega arith, i, t)

  -- unit n is one of o, and its two lists are flagged
  pub touched_more : (half more : Numbers) → Member o n → ((x : ℕ) → Decides (half x) (Member flags x ⊎ Takes p n x)) → ((x : ℕ) → Decides (more x) (Member half x ⊎ Makes p n x)) →
      (x : ℕ) → Decides (more x) (TouchedBelow p o (n + 1) x)
  touched_more half more i inputs outputs x = (
    λ m. ⊎_elim
        (λ (h : Member half x). ⊎_elim (λ (f : Member flags x). one_more x ((before x).0 f)) (λ (t : Takes p n x). (n, omega arith, i, inl t)) ((inputs x).0 h))
        (λ (t : Makes p n x). (n, omega arith, i, inr t))
        ((outputs x).0 m),
    λ w. ⊎_elim
        (λ (e : w.0 ≡ n). ⊎_elim
        (λ (t : Takes p w.0 x). (outputs x).1 (inl ((inputs x).1 (inr (subst (λ (u : ℕ). Takes p u x) e t)))))
        (λ (t : Makes p w.0 x). (outputs x).1 (inr (subst (λ (u : ℕ). Makes p u x) e t)))
        w.3)
        (λ (e : w.0 ≡ n → ⊥). (outputs x).1 (inl ((inputs x).1 (inl ((before x).1 (w.0, omega (arith, w.1), w.2, w.3))))))
        (cases_eq w.0 n),
  )

  -- unit n is none of o
  pub touched_same : o n ≡ false → (x : ℕ) → Decides (flags x) (TouchedBelow p o (n + 1) x)
  touched_same out x = (
    λ m. one_more x ((before x).0 m),
    λ w. ⊎_elim
        (λ (e : w.0 ≡ n). absurd (both_ways (o n) out (subst (λ (u : ℕ). Member o u) e w.2)))
        (λ (e : w.0 ≡ n → ⊥). (before x).1 (w.0, omega (arith, w.1), w.2, w.3))
        (cases_eq w.0 n),
  )
