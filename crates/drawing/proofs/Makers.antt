-- The walk by which the makers of what is needed get their ranks.
use Rattle.std.proofs.Common.{◌≡◌, ℕ, ◌+◌, ◌-◌, ◌<◌, ◌≤◌, Bool, ◌↔◌, true, List, [], ◌∷◌, length, get_or, set, refl, inl, arith}
use Rattle.book.specs.Layers.{names}
use Rattle.structure.specs.Problem.{Member, Takes, Makes}
use Rattle.drawing.specs.declared.network.Network.{Network}
use Rattle.drawing.specs.declared.composition.Need.{Need}
use Rattle.drawing.specs.Flags.{flagged}
use Rattle.drawing.specs.Sides.{list_at}
use Rattle.drawing.specs.Network.{taken_down}
use Rattle.drawing.specs.Composition.{asked_for, Asked, Ranked, Spreading}
use Rattle.drawing.proofs.Walks.{Naming, Past, naming_first, naming_next, past_next, past_all}
use Rattle.drawing.proofs.Asking.{added_equally}
use Rattle.drawing.proofs.Spreading.{path_known, met, now_ranked, still_ranked, spreads}

-- the units of left are still to come for the need n, and the other live makers have ranks; it began with asked₀ and q₀
pub record Walking (net : Network) (live : List Bool) (n : Need) (asked₀ : List Bool) (q₀ : List Need) (asked : List Bool) (ranks : List ℕ) (q : List Need) (left : List ℕ) : Type 0 where
  pub spreading : Spreading (taken_down net) (flagged live) asked ranks (n ∷ q) n.rank
  pub naming : Naming net.outputs n.material left
  pub past : Past net.outputs n.material left (λ u. Member (flagged live) u → Ranked ranks u)
  pub equally : length q + asked_for asked₀ ≡ length q₀ + asked_for asked

module _ (net : Network) (live : List Bool) where
  module _ {n : Need} {asked : List Bool} {ranks : List ℕ} {q : List Need} (s : Spreading (taken_down net) (flagged live) asked ranks (n ∷ q) n.rank) where
    -- what is needed is a material of the book
    pub needed_some : 1 ≤ n.material
    needed_some = (path_known net.bounded n.material (n.rank - 1) (s.due n (inl refl)).reached).0

    pub needed_known : n.material ≤ 1024
    needed_known = omega (arith, net.few_materials, (path_known net.bounded n.material (n.rank - 1) (s.due n (inl refl)).reached).1)

    -- a walk starts with all units that make it
    pub walk_starts : (left : List ℕ) → ((u : ℕ) → (names u left ≡ true) ↔ (names n.material (list_at net.outputs u) ≡ true)) → Walking net live n asked q asked ranks q left
    walk_starts left each = record {
      spreading = s;
      naming = λ u i. (each u).0 i;
      past = λ u i. inl ((each u).1 i);
      equally = refl;
    }

  module _ {n : Need} {asked₀ : List Bool} {q₀ : List Need} {asked : List Bool} {ranks : List ℕ} {q : List Need} where
    -- unit u is next
    module _ (u : ℕ) (left : List ℕ) (w : Walking net live n asked₀ q₀ asked ranks q (u ∷ left)) where
      pub makes : Makes (taken_down net) u n.material
      makes = naming_first net.outputs n.material u left w.naming

      -- the unit is not live, or has a rank
      pub walk_passes : (Member (flagged live) u → Ranked ranks u) → Walking net live n asked₀ q₀ asked ranks q left
      walk_passes done = record {
        spreading = w.spreading;
        naming = naming_next net.outputs n.material u left w.naming;
        past = past_next net.outputs n.material u left (λ v. Member (flagged live) v → Ranked ranks v) (λ v. Member (flagged live) v → Ranked ranks v) w.past (λ v d. d) done;
        equally = w.equally;
      }

      -- the unit is live and has none: it gets one, and its inputs are asked for
      pub walk_ranks : Member (flagged live) u → get_or ranks u 0 ≡ 0 → u < length ranks → {asked' : List Bool} {q' : List Need} → Asked (Takes (taken_down net) u) (n.rank + 1) asked q asked' q' → Walking net live n asked₀ q₀ asked' (set ranks u n.rank) q' left
      walk_ranks is none inside a = record {
        spreading = spreads w.spreading is makes none inside a;
        naming = naming_next net.outputs n.material u left w.naming;
        past = past_next net.outputs n.material u left (λ v. Member (flagged live) v → Ranked ranks v) (λ v. Member (flagged live) v → Ranked (set ranks u n.rank) v)
            w.past
            (λ v d m. still_ranked w.spreading is makes none inside v (d m))
            (λ _. now_ranked w.spreading is makes none inside);
        equally = omega (arith, w.equally, added_equally a);
      }

    -- the walk has passed every maker
    pub walk_ends : Walking net live n asked₀ q₀ asked ranks q [] → Spreading (taken_down net) (flagged live) asked ranks q n.rank
    walk_ends w = met w.spreading (λ u l m. past_all net.outputs n.material (λ v. Member (flagged live) v → Ranked ranks v) w.past u m l)
