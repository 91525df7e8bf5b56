-- The maximal structure, computed: whether there is a solution-structure, and the union of all.
use Rattle.std.proofs.Common.{◌≡◌, ℕ, suc, Bool, true, not, ◌||◌, ◌⊎◌, get_or, Decides, inl, inr, ⊎_elim, arith}
use Rattle.std.proofs.lemmas.Bool.Decides.{Decides-or, Decides-not, Decides-like}
use Rattle.structure.specs.Problem.{Numbers, Member, Within, Problem, MadeIn, Bounded}
use Rattle.structure.specs.Structures.{HasSolution, UnionOfAll, HoldsEvery, Rank}
use Rattle.structure.specs.Supported.{Collected, Spanned, AllMade, NoneBoth}
use Rattle.structure.proofs.Unions.{starts_in, holds_every_is_union}
use Rattle.structure.proofs.Searches.{itself, decided, each_below, is_each_below, made_in, is_made_in, taken_in, is_taken_in, standing_known}
use Rattle.structure.proofs.Collecting.{made_or_not, none_where_unmade, collected_holds_every, rank_inside}
use Rattle.structure.proofs.Sweeps.{swept, swept_largest}
use Rattle.structure.proofs.Levels.{ranked, ranks}
use Rattle.structure.proofs.Ranking.{ranked_collected, ranks_hold}

-- the units of the maximal structure: those of the largest supported set that lead to something wanted
abbrev pub maximal_units : Problem → Numbers
maximal_units p = ranked (ranks p (swept p))

-- what the units of a set take and make, and so the materials of the maximal structure
abbrev pub touched_in : Problem → Numbers → Numbers
touched_in p o x = taken_in p o x || made_in p o x

abbrev pub maximal_materials : Problem → Numbers
maximal_materials p = touched_in p (maximal_units p)

-- each wanted material is made in the largest supported set
abbrev pub possible : Problem → Bool
possible p = each_below (λ x. not (p.wanted x) || made_in p (swept p) x) (suc p.materials)

module _ (p : Problem) (bounded : Bounded p) where
  swept_stand : Within (swept p) p.standing
  swept_stand = (swept_largest p bounded).supported.stand

  units_collected : Collected p (swept p) (maximal_units p)
  units_collected = ranked_collected p (swept p) (standing_known p bounded (swept p) swept_stand)

  -- what a set of standing units takes and makes
  is_spanned : (o : Numbers) → Within o p.standing → Spanned p o (touched_in p o)
  is_spanned o stand x =
      let known = standing_known p bounded o stand in
      Decides-like (touched_in p o x) (⊎_elim (λ w. (w.0, w.1, inl w.2)) (λ w. (w.0, w.1, inr w.2))) (λ w. ⊎_elim (λ t. inl (w.0, w.1, t)) (λ t. inr (w.0, w.1, t)) w.2)
      (Decides-or (taken_in p o x) (made_in p o x) (is_taken_in p o known x) (is_made_in p o known x))

  -- the test for a solution-structure
  is_possible : Decides (possible p) (AllMade p (swept p))
  is_possible =
      Decides-like (possible p)
      (λ f x w. ⊎_elim (λ unwanted. absurd (unwanted w)) (λ i. i) (f x (let k = bounded.wanted_known x w in omega arith)))
      (λ f x l. ⊎_elim (λ w. inr (f x w)) inl (decided (p.wanted x) (itself (p.wanted x))))
      (is_each_below (λ x. not (p.wanted x) || made_in p (swept p) x) (λ x. (Member p.wanted x → ⊥) ⊎ MadeIn p (swept p) x)
      (λ x. Decides-or (not (p.wanted x)) (made_in p (swept p) x) (Decides-not (p.wanted x) (itself (p.wanted x)))
      (is_made_in p (swept p) (standing_known p bounded (swept p) swept_stand) x))
      (suc p.materials))

  units_stand : Within (maximal_units p) p.standing
  units_stand u i = swept_stand u (starts_in ((units_collected u).0 i).1)

  materials_spanned : Spanned p (maximal_units p) (maximal_materials p)
  materials_spanned = is_spanned (maximal_units p) units_stand

  -- where each wanted material is made, they are the maximal structure
  pub maximal_holds_every : possible p ≡ true → HoldsEvery p (maximal_materials p) (maximal_units p)
  maximal_holds_every e =
      collected_holds_every p bounded (swept p) (maximal_units p) (maximal_materials p) (swept_largest p bounded) (is_possible.0 e) units_collected materials_spanned

  -- a unit's rank in the maximal structure
  pub maximal_ranks : possible p ≡ true → (u : ℕ) → Member (maximal_units p) u → Rank p (maximal_materials p) (maximal_units p) u (get_or (ranks p (swept p)) u 0)
  maximal_ranks e u i =
      rank_inside p (swept p) (maximal_units p) (maximal_materials p) (is_possible.0 e) units_collected materials_spanned u (get_or (ranks p (swept p)) u 0)
      (ranks_hold p (swept p) (standing_known p bounded (swept p) swept_stand) u i)

  -- whether there is a solution-structure is decided
  pub possible_decides : NoneBoth p → Decides (possible p) (HasSolution p)
  possible_decides apart = (
    λ e. (maximal_materials p, maximal_units p, (maximal_holds_every e).solution),
    λ s. is_possible.1 (λ x w.
        ⊎_elim (λ made. made) (λ none. absurd (none_where_unmade p bounded apart (swept p) (swept_largest p bounded) x w none s))
        (made_or_not p bounded (swept p) swept_stand x)),
  )

  -- where there is one, there is the union of all
  pub union_exists : NoneBoth p → HasSolution p → (m : Numbers) × (o : Numbers) × UnionOfAll p m o
  union_exists apart s =
      (maximal_materials p, maximal_units p, holds_every_is_union p (maximal_materials p) (maximal_units p) (maximal_holds_every ((possible_decides apart).1 s)))
