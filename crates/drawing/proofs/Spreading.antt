-- How the needs are met: one is taken, its makers get their ranks, and at the end nothing waits.
use Rattle.std.proofs.Common.{◌≡◌, ℕ, suc, ◌+◌, ◌-◌, ◌<◌, ◌≤◌, Bool, false, ◌⊎◌, List, [], ◌∷◌, ◌++◌, length, get_or, set, sym, refl, ap, ◌∙◌, subst, inl, inr, ⊎_elim, arith}
use Rattle.std.proofs.lemmas.List.{get_or-set_same, get_or-set_other}
use Rattle.std.proofs.lemmas.Bool.{both_ways, cases_eq, cases_lt}
use Rattle.structure.specs.Problem.{Numbers, Member, Problem, Takes, Makes, Bounded}
use Rattle.structure.specs.Structures.{Path, Rank}
use Rattle.structure.specs.Structures.Node.{material, unit}
use Rattle.structure.specs.Structures.Path.{arrived, taken, made}
use Rattle.structure.specs.Supported.{any}
use Rattle.drawing.specs.declared.composition.Need.{Need}
use Rattle.drawing.specs.Flags.{flagged}
use Rattle.drawing.specs.Composition.{Composed, Among, Awaited, Level, Levels, Asked, Ranked, MakersRanked, Due, Spreading}
use Rattle.drawing.proofs.Queued.{among_cases, awaited_left, awaited_right, level_first, level_rank, levels_append, levels_rest, levels_rank}

module _ {p : Problem} {g : Numbers} where
  -- a path starts at a material of the book
  pub path_known : Bounded p → (x k : ℕ) → Path p any g (material x) k → (1 ≤ x) × (x ≤ p.materials)
  path_known b x k (arrived i w) = b.wanted_known x w
  path_known b x k (taken {u = u} i j t path) = b.inputs_known u x t

  -- no path from what waits is shorter than its need says
  awaited_least : {asked : List Bool} {ranks : List ℕ} {q : List Need} {r : ℕ} → Spreading p g asked ranks q r → (x k : ℕ) (w : Awaited q x) → Path p any g (material x) k → w.0.rank ≤ suc k
  awaited_least s x k (n, i, e) path = (s.due n i).least k (subst (λ (z : ℕ). Path p any g (material z) k) (sym e) path)

  module _ {asked : List Bool} {ranks : List ℕ} {n : Need} {q : List Need} {r : ℕ} (s : Spreading p g asked ranks (n ∷ q) r) where
    -- with the last need of a rank gone, each material of the next rank was asked for
    next_asked : Level (r + 1) (n ∷ q) → (x k : ℕ) → k < r + 1 → Path p any g (material x) k → Member (flagged asked) x
    next_asked l x k h (arrived i w) = s.nearer x 0 s.from_one (arrived i w)
    next_asked l x k h (taken {u = u} i j t (made {x = y} {k = k'} _ m e path)) =
        ⊎_elim (λ (w : Awaited (n ∷ q) y). absurd (omega (arith, awaited_least s y k' w path, level_rank (r + 1) (n ∷ q) w.0 l w.1)))
        (λ (v : MakersRanked p g ranks y). s.inputs_asked u x (v u j e) t) (s.followed y (s.nearer y k' (omega arith) path))

    at_rank : Levels n.rank q → ((x k : ℕ) → k < n.rank → Path p any g (material x) k → Member (flagged asked) x) → Spreading p g asked ranks (n ∷ q) n.rank
    at_rank l near = record {
      from_one = (s.due n (inl refl)).from_one;
      due = s.due;
      in_order = inl (refl, l);
      nearer = near;
      followed = s.followed;
      inputs_asked = s.inputs_asked;
      ranked = s.ranked;
    }

    -- the state is one of the rank of the first need, which is at most one more than it was
    pub at_first : (n.rank ≤ r + 1) × Spreading p g asked ranks (n ∷ q) n.rank
    at_first = ⊎_elim same next s.in_order
      where
        same : (n.rank ≡ r) × Levels r q → (n.rank ≤ r + 1) × Spreading p g asked ranks (n ∷ q) n.rank
        same (e, l) = (omega arith, at_rank (subst (λ (z : ℕ). Levels z q) (sym e) l) (λ x k h. s.nearer x k (omega arith)))

        next : Level (r + 1) (n ∷ q) → (n.rank ≤ r + 1) × Spreading p g asked ranks (n ∷ q) n.rank
        next l = (omega (arith, l.0), at_rank (subst (λ (z : ℕ). Levels z q) (sym l.0) (level_first (r + 1) q l.1)) (λ x k h. next_asked l x k (omega (arith, l.0))))

    -- the first need is met
    pub met : MakersRanked p g ranks n.material → Spreading p g asked ranks q r
    met done = record {
      from_one = s.from_one;
      due = λ m i. s.due m (inr i);
      in_order = levels_rest r n q s.in_order;
      nearer = s.nearer;
      followed = λ x i. ⊎_elim (waits x) inr (s.followed x i);
      inputs_asked = s.inputs_asked;
      ranked = s.ranked;
    }
      where
        waits : (x : ℕ) → Awaited (n ∷ q) x → Awaited q x ⊎ MakersRanked p g ranks x
        waits x (m, inl e, is) = inr (subst (MakersRanked p g ranks) (sym (ap (λ (z : Need). z.material) e) ∙ is) done)
        waits x (m, inr i, is) = inl (m, i, is)

  -- a unit without a rank that makes what the first need is for gets the rank of that need
  module _ {asked : List Bool} {ranks : List ℕ} {n : Need} {q : List Need} (s : Spreading p g asked ranks (n ∷ q) n.rank)
      {u : ℕ} (live : Member g u) (makes : Makes p u n.material) (none : get_or ranks u 0 ≡ 0) (inside : u < length ranks) where
    leads : Path p any g (unit u) n.rank
    leads =
        let one : suc (n.rank - 1) ≡ n.rank = omega (arith, s.from_one) in
        subst (Path p any g (unit u)) one (made live refl makes (s.due n (inl refl)).reached)

    least : (k : ℕ) → Path p any g (unit u) k → n.rank ≤ k
    least k (made {x = y} {k = k'} _ i e path) = ⊎_elim near (λ (h : n.rank ≤ k'). omega arith) (cases_lt k' n.rank)
      where
        near : k' < n.rank → n.rank ≤ suc k'
        near h =
            ⊎_elim (λ (w : Awaited (n ∷ q) y). omega (arith, awaited_least s y k' w path, levels_rank n.rank (n ∷ q) w.0 s.in_order w.1))
            (λ (v : MakersRanked p g ranks y). absurd (v u live e none)) (s.followed y (s.nearer y k' h path))

    here : get_or (set ranks u n.rank) u 0 ≡ n.rank
    here = get_or-set_same ranks u n.rank 0 inside

    other : (v : ℕ) → (v ≡ u → ⊥) → get_or (set ranks u n.rank) v 0 ≡ get_or ranks v 0
    other v e = get_or-set_other ranks u v n.rank 0 e

    pub now_ranked : Ranked (set ranks u n.rank) u
    now_ranked z = omega (arith, s.from_one, here)

    pub still_ranked : (v : ℕ) → Ranked ranks v → Ranked (set ranks u n.rank) v
    still_ranked v h =
        ⊎_elim (λ (e : v ≡ u). subst (Ranked (set ranks u n.rank)) (sym e) now_ranked)
        (λ (e : v ≡ u → ⊥). λ z. h (sym (other v e) ∙ z)) (cases_eq v u)

    rank_here : (k : ℕ) → get_or (set ranks u n.rank) u 0 ≡ suc k → Rank p any g u (suc k)
    rank_here k e = subst (Rank p any g u) (sym here ∙ e) (record { reached = leads; least = least })

    module _ {asked' : List Bool} {q' : List Need} (a : Asked (Takes p u) (n.rank + 1) asked q asked' q') where
      due_next : (m : Need) → Among m a.added → Due p g m
      due_next m i =
          let rank : m.rank ≡ n.rank + 1 = level_rank (n.rank + 1) a.added m a.of_rank i in
          let before : n.rank ≡ m.rank - 1 = omega arith in
          record {
            from_one = omega arith;
            reached = subst (Path p any g (material m.material)) before (taken refl live (a.new m i).0 leads);
            least = λ k path. ⊎_elim (λ (h : k < n.rank). absurd ((a.new m i).1 (s.nearer m.material k h path))) (λ (h : n.rank ≤ k). omega arith) (cases_lt k n.rank);
          }

      waits_or_done : (x : ℕ) → Awaited (n ∷ q) x ⊎ MakersRanked p g ranks x → Awaited (n ∷ (q ++ a.added)) x ⊎ MakersRanked p g (set ranks u n.rank) x
      waits_or_done x (inl w) = inl (awaited_left (n ∷ q) a.added x w)
      waits_or_done x (inr v) = inr (λ w l e. still_ranked w (v w l e))

      spread_on : Spreading p g asked' (set ranks u n.rank) (n ∷ (q ++ a.added)) n.rank
      spread_on = record {
        from_one = s.from_one;
        due = λ m i. ⊎_elim (s.due m) (due_next m) (among_cases m (n ∷ q) a.added i);
        in_order = levels_append n.rank (n ∷ q) a.added s.in_order a.of_rank;
        nearer = λ x k h path. a.kept x (s.nearer x k h path);
        followed = λ x i. ⊎_elim (λ o. waits_or_done x (s.followed x o)) (λ (w : Awaited a.added x). inl (awaited_right (n ∷ q) a.added x w)) (a.told x i);
        inputs_asked = λ v x h t. ⊎_elim
            (λ (e : v ≡ u). a.covered x (subst (λ (z : ℕ). Takes p z x) e t))
            (λ (e : v ≡ u → ⊥). a.kept x (s.inputs_asked v x (λ z. h (other v e ∙ z)) t))
            (cases_eq v u);
        ranked = λ v k e. ⊎_elim
            (λ (c : v ≡ u). subst (λ (z : ℕ). Rank p any g z (suc k)) (sym c) (rank_here k (ap (λ (z : ℕ). get_or (set ranks u n.rank) z 0) (sym c) ∙ e)))
            (λ (c : v ≡ u → ⊥). s.ranked v k (sym (other v c) ∙ e))
            (cases_eq v u);
      }

      pub spreads : Spreading p g asked' (set ranks u n.rank) (n ∷ q') n.rank
      spreads = subst (λ (l : List Need). Spreading p g asked' (set ranks u n.rank) (n ∷ l) n.rank) (sym a.behind) spread_on

  -- nothing waits any more
  module _ {asked : List Bool} {ranks : List ℕ} {r : ℕ} (s : Spreading p g asked ranks [] r) where
    followed_up : (x : ℕ) → Member (flagged asked) x → MakersRanked p g ranks x
    followed_up x i = ⊎_elim (λ (w : Awaited [] x). absurd w.1) (λ v. v) (s.followed x i)

    all_asked : (x k : ℕ) → Path p any g (material x) k → Member (flagged asked) x
    all_asked x k (arrived i w) = s.nearer x 0 s.from_one (arrived i w)
    all_asked x k (taken {u = u} i j t (made {x = y} _ m e path)) = s.inputs_asked u x (followed_up y (all_asked y _ path) u j e) t

    all_ranked : (u k : ℕ) → Path p any g (unit u) k → Ranked ranks u
    all_ranked u k (made {x = y} j m e path) = followed_up y (all_asked y _ path) u j e

    pub ended : length ranks ≡ 1025 → Composed p g ranks
    ended long = record { long = long; ranked = s.ranked; unranked = λ u k z path. all_ranked u k path z }

  -- the wanted materials are asked for, and no unit has a rank yet
  pub begun : {asked asked' : List Bool} {q : List Need} (ranks : List ℕ) → Asked (Member p.wanted) 1 asked [] asked' q → ((x : ℕ) → flagged asked x ≡ false) → ((u : ℕ) → get_or ranks u 0 ≡ 0) → Spreading p g asked' ranks q 1
  begun {asked} {asked'} {q} ranks a none zeros = subst (λ (l : List Need). Spreading p g asked' ranks l 1) (sym a.behind) start
    where
      due : (n : Need) → Among n a.added → Due p g n
      due n i =
          let rank : n.rank ≡ 1 = level_rank 1 a.added n a.of_rank i in
          let zero_units : 0 ≡ n.rank - 1 = omega arith in
          record {
            from_one = omega arith;
            reached = subst (Path p any g (material n.material)) zero_units (arrived refl (a.new n i).0);
            least = λ k path. omega arith;
          }

      nearest : (x k : ℕ) → k < 1 → Path p any g (material x) k → Member (flagged asked') x
      nearest x k h (arrived i w) = a.covered x w
      nearest x k h (taken i j t (made _ m e path)) = absurd (omega arith)

      start : Spreading p g asked' ranks a.added 1
      start = record {
        from_one = omega arith;
        due = due;
        in_order = level_first 1 a.added a.of_rank;
        nearer = nearest;
        followed = λ x i. inl (⊎_elim (λ o. absurd (both_ways (flagged asked x) (none x) o)) (λ w. w) (a.told x i));
        inputs_asked = λ u x h t. absurd (h (zeros u));
        ranked = λ u k e. absurd (omega (arith, zeros u));
      }
