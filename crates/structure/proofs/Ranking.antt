-- The ranks among the units of a set: a unit's level is its rank.
use Rattle.std.proofs.Common.{◌≡◌, ℕ, zero, suc, ◌<◌, ◌≤◌, get_or, refl, subst, inl, inr, arith}
use Rattle.std.proofs.lemmas.Bool.{leb-true, le-leb}
use Rattle.structure.specs.Problem.{Numbers, Member, Problem}
use Rattle.structure.specs.Structures.{Path, Rank}
use Rattle.structure.specs.Structures.Node.{unit}
use Rattle.structure.specs.Structures.Path.{arrived, taken, made}
use Rattle.structure.specs.Supported.{any, Collected}
use Rattle.structure.proofs.Unions.{starts_in}
use Rattle.structure.proofs.Tables.{at_table}
use Rattle.structure.proofs.Levels.{ranked, ranks, rank, has, Next, level, all_near}
use Rattle.structure.proofs.Levels.Deeper.{kept, risen, still_none}

module _ (p : Problem) (g : Numbers) (known : (u : ℕ) → Member g u → u ≤ p.units) where
  -- a rank up to k is the number of units on a path; a unit with a path of at most k units has a rank, and none longer
  record Upto (k : ℕ) : Type 0 where
    near : (u : ℕ) → 1 ≤ rank p g k u → (rank p g k u ≤ k) × Path p any g (unit u) (rank p g k u)
    far : (u j : ℕ) → Path p any g (unit u) j → j ≤ k → (1 ≤ rank p g k u) × (rank p g k u ≤ j)

  -- a level more at a time
  upto_none : Upto 0
  upto_none = record {
    near = λ u h. absurd (omega (arith, at_table {X = ℕ} (λ v. 0) p.units u 0 (λ _. refl)));
    far = λ u j q h. absurd (no_units u j q h);
  }
    where
      no_units : (u j : ℕ) → Path p any g (unit u) j → j ≤ 0 → ⊥
      no_units u j (made i e t q) h = omega arith

  module _ (k : ℕ) (up : Upto k) where
    -- a unit that is next has a path of at most k + 1 units, and a unit with such a path is next
    next_path : (u : ℕ) → Next p g (has p g k) u → (j : ℕ) × (j ≤ suc k) × Path p any g (unit u) j
    next_path u (i, (x, t, inl w)) = (1, omega arith, made i refl t (arrived refl w))
    next_path u (i, (x, t, inr (v, h, s))) =
        let (low, q) = up.near v (leb-true 1 (rank p g k v) h) in
        (suc (rank p g k v), omega arith, made i refl t (taken refl (starts_in q) s q))

    path_next : (u j : ℕ) → Path p any g (unit u) j → j ≤ suc k → Next p g (has p g k) u
    path_next u j (made i e t (arrived f w)) h = (i, (_, t, inl w))
    path_next u j (made i e t (taken {u = v} {k = l} f d s q)) h = (i, (_, t, inr (v, le-leb 1 (rank p g k v) (up.far v l q (omega arith)).0, s)))

    -- a unit that has no rank yet has no path of k units or fewer
    too_far : (u j : ℕ) → rank p g k u ≡ 0 → Path p any g (unit u) j → k < j
    too_far u j none q = grind (arith, up.far u j q)

    near_more : (u : ℕ) → 1 ≤ rank p g (suc k) u → (rank p g (suc k) u ≤ suc k) × Path p any g (unit u) (rank p g (suc k) u)
    near_more u h =
        elim (level p g known k u) [
          | kept old same ↦ (let (low, q) = up.near u old in (omega arith, rw same q))
          | risen out n new ↦ (let (j, l, q) = next_path u n in (omega arith, subst (Path p any g (unit u)) (omega (arith, too_far u j out q)) q))
          | still_none out n none ↦ absurd (omega arith)
        ]

    far_more : (u j : ℕ) → Path p any g (unit u) j → j ≤ suc k → (1 ≤ rank p g (suc k) u) × (rank p g (suc k) u ≤ j)
    far_more u j q h =
        elim (level p g known k u) [
          | kept old same ↦ (omega arith, grind (arith, (up.near u old).0, up.far u j q))
          | risen out n new ↦ (omega arith, omega (arith, too_far u j out q))
          | still_none out n none ↦ absurd (n (path_next u j q h))
        ]

  upto : (k : ℕ) → Upto k
  upto zero = upto_none
  upto (suc k) = let up = upto k in record { near = near_more k up; far = far_more k up }

  -- the units that have a rank in the end are those that lead to something wanted, and that is their rank
  pub ranked_collected : Collected p g (ranked (ranks p g))
  ranked_collected u = (
    λ i. (_, ((upto (suc p.units)).near u (leb-true 1 (rank p g (suc p.units) u) i)).1),
    λ w. all_near p g known (unit u) w.0 w.1,
  )

  pub ranks_hold : (u : ℕ) → Member (ranked (ranks p g)) u → Rank p any g u (get_or (ranks p g) u 0)
  ranks_hold u i =
      let n = suc p.units in
      let (low, q) = (upto n).near u (leb-true 1 (rank p g n u) i) in
      record {
        reached = q;
        least = λ j r. grind (arith, (upto n).far u j r);
      }

  -- so every unit that leads to something wanted has a rank
  pub has_rank : (u : ℕ) → (k : ℕ) × Path p any g (unit u) k → (k : ℕ) × Rank p any g u k
  has_rank u leads = (_, ranks_hold u ((ranked_collected u).1 leads))
