-- The units of a set that lead to something wanted, computed level by level: those that make something wanted, those that make
-- what these take, and so on.
use Rattle.std.proofs.Common.{◌≡◌, ℕ, zero, suc, ◌<◌, ◌≤◌, cond, ◌&&◌, ◌||◌, leb, ◌⊎◌, List, get_or, Decides, refl, inl, inr, ⊎_elim, arith}
use Rattle.std.proofs.lemmas.Bool.{cond_both, leb-true, leb-false, le-leb}
use Rattle.std.proofs.lemmas.Bool.Decides.{Decides-and, Decides-or, not_from_Decides}
use Rattle.structure.specs.Problem.{Numbers, Member, Within, Problem, Takes, Makes}
use Rattle.structure.specs.Structures.{Node, Path}
use Rattle.structure.specs.Structures.Node.{material, unit}
use Rattle.structure.specs.Structures.Path.{arrived, taken, made}
use Rattle.structure.specs.Supported.{any}
use Rattle.structure.proofs.Searches.{itself, some_entry, is_some_entry, taken_in, is_taken_in}
use Rattle.structure.proofs.Growth.{grown}
use Rattle.structure.proofs.Tables.{table, past_table, at_table}

-- the units that have a rank
abbrev pub ranked : List ℕ → Numbers
ranked ranks u = leb 1 (get_or ranks u 0)

-- the units of g that make something wanted, or something that a unit of s takes
abbrev pub next : Problem → Numbers → Numbers → Numbers
next p g s u = g u && some_entry (λ x. p.wanted x || taken_in p s x) (p.outputs u)

-- one level more: who has a rank keeps it, and of the others those that are next get the rank k
abbrev pub deeper : Problem → Numbers → ℕ → List ℕ → ℕ → ℕ
deeper p g k ranks u = cond (ranked ranks u) (get_or ranks u 0) (cond (next p g (ranked ranks) u) k 0)

-- the ranks up to k; all others are 0
abbrev pub levels : Problem → Numbers → ℕ → List ℕ
levels p g zero = table (λ u. 0) p.units
levels p g (suc k) = table (deeper p g (suc k) (levels p g k)) p.units

-- each level but the last adds a unit, so one more than there are units is enough
abbrev pub ranks : Problem → Numbers → List ℕ
ranks p g = levels p g (suc p.units)

-- a unit's rank where it is at most k, and the units with such a rank
abbrev pub rank : Problem → Numbers → ℕ → ℕ → ℕ
rank p g k u = get_or (levels p g k) u 0

abbrev pub has : Problem → Numbers → ℕ → Numbers
has p g k = ranked (levels p g k)

-- what is near a set s of units: the units themselves; what is wanted, and what a unit of s takes
abbrev pub Near : Problem → Numbers → Node → Type 0
Near p s (unit u) = Member s u
Near p s (material x) = Member p.wanted x ⊎ ((v : ℕ) × Member s v × Takes p v x)

-- what is next: the units of g that make something near
abbrev pub Next : Problem → Numbers → Numbers → ℕ → Type 0
Next p g s u = Member g u × ((x : ℕ) × Makes p u x × Near p s (material x))

-- what one level more makes of a unit's rank: it is as it was; it is new, and k + 1; there is still none
pub data Deeper (p : Problem) (g : Numbers) (k u rank' : ℕ) : Type 0 where
  kept : 1 ≤ rank p g k u → rank' ≡ rank p g k u → Deeper p g k u rank'
  risen : rank p g k u ≡ 0 → Next p g (has p g k) u → rank' ≡ suc k → Deeper p g k u rank'
  still_none : rank p g k u ≡ 0 → (Next p g (has p g k) u → ⊥) → rank' ≡ 0 → Deeper p g k u rank'

-- what is next to a set is next to a larger one
next_wider : (p : Problem) (g s t : Numbers) → Within s t → (u : ℕ) → Next p g s u → Next p g t u
next_wider p g s t h u (i, (x, m, near)) = (i, (x, m, ⊎_elim inl (λ w. inr (w.0, h w.0 w.1, w.2)) near))

-- a number that a table gives a rank is one of the table's
ranked_small : (f : ℕ → ℕ) (n u : ℕ) → Member (ranked (table f n)) u → u ≤ n
ranked_small f n u i = grind (arith, past_table f n u 0, leb-true 1 (get_or (table f n) u 0) i)

module _ (p : Problem) (g : Numbers) (known : (u : ℕ) → Member g u → u ≤ p.units) where
  -- the test decides that
  is_next : (s : Numbers) → ((u : ℕ) → Member s u → u ≤ p.units) → (u : ℕ) → Decides (next p g s u) (Next p g s u)
  is_next s small u =
      Decides-and (g u) (some_entry (λ x. p.wanted x || taken_in p s x) (p.outputs u)) (itself (g u))
      (is_some_entry (λ x. p.wanted x || taken_in p s x) (λ x. Near p s (material x))
      (λ x. Decides-or (p.wanted x) (taken_in p s x) (itself (p.wanted x)) (is_taken_in p s small x)) (p.outputs u))

  -- a unit with a rank is one of the book's numbers
  has_small : (k u : ℕ) → Member (has p g k) u → u ≤ p.units
  has_small zero u i = ranked_small (λ v. 0) p.units u i
  has_small (suc k) u i = ranked_small (deeper p g (suc k) (levels p g k)) p.units u i

  -- the ranks of a level, from those of the level before
  deeper_cases : (k u : ℕ) → Deeper p g k u (deeper p g (suc k) (levels p g k) u)
  deeper_cases k u =
      let t = next p g (has p g k) u in
      let d = is_next (has p g k) (has_small k) u in
      cond_both (has p g k u) (rank p g k u) (cond t (suc k) 0) (Deeper p g k u) (λ e. kept (leb-true 1 (rank p g k u) e) refl) (λ e.
      let out : rank p g k u ≡ 0 = omega (arith, leb-false 1 (rank p g k u) e) in
      cond_both t (suc k) 0 (Deeper p g k u) (λ i. risen out (d.0 i) refl) (λ i. still_none out (not_from_Decides t d i) refl))

  pub level : (k u : ℕ) → Deeper p g k u (rank p g (suc k) u)
  level k u = rw (at_table (deeper p g (suc k) (levels p g k)) p.units u 0 (none (deeper_cases k u))) (deeper_cases k u)
    where
      none : {rank' : ℕ} → Deeper p g k u rank' → p.units < u → rank' ≡ 0
      none (kept old same) past = absurd (omega (arith, has_small k u (le-leb 1 (rank p g k u) old)))
      none (risen out n new) past = absurd (omega (arith, known u n.0))
      none (still_none out n none') past = none'

  -- the units with a rank up to k + 1 are those with a rank up to k and what is next to them
  has_grows : (k : ℕ) → Within (has p g k) (has p g (suc k))
  has_grows k u i =
      let old : 1 ≤ rank p g k u = leb-true 1 (rank p g k u) i in
      le-leb 1 (rank p g (suc k) u) (elim (level k u) [ kept w same ↦ omega arith | risen out n new ↦ omega arith | still_none out n none ↦ omega arith ])

  next_has : (k u : ℕ) → Next p g (has p g k) u → Member (has p g (suc k)) u
  next_has k u i =
      le-leb 1 (rank p g (suc k) u) (elim (level k u) [ kept old same ↦ omega arith | risen out n new ↦ omega arith | still_none out n none ↦ absurd (n i) ])

  has_next : (k u : ℕ) → Member (has p g (suc k)) u → Member (has p g k) u ⊎ Next p g (has p g k) u
  has_next k u i =
      let here : 1 ≤ rank p g (suc k) u = leb-true 1 (rank p g (suc k) u) i in
      elim (level k u) [ kept old same ↦ inl (le-leb 1 (rank p g k u) old) | risen out n new ↦ inr n | still_none out n none ↦ absurd (omega arith) ]

  -- the last level has all that is next to it
  closed : (u : ℕ) → Next p g (ranked (ranks p g)) u → Member (ranked (ranks p g)) u
  closed u n = still u (next_has (suc p.units) u n)
    where
      still : Within (has p g (suc (suc p.units))) (has p g (suc p.units))
      still =
          grown (suc p.units) (has p g) (λ k v i. omega (arith, has_small k v i)) has_grows
          (λ k h v i. ⊎_elim (λ old. old) (λ new. next_has k v (next_wider p g (has p g (suc k)) (has p g k) h v new)) (has_next (suc k) v i))

  -- so it has every unit that leads to something wanted
  pub all_near : (a : Node) (j : ℕ) → Path p any g a j → Near p (ranked (ranks p g)) a
  all_near a j (arrived i w) = inl w
  all_near a j (taken i e t q) = inr (_, all_near _ _ q, t)
  all_near a j (made e i t q) = closed _ (e, (_, t, all_near _ _ q))
