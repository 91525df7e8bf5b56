-- What is collected from a supported set is a solution-structure; what is collected from the largest one holds every other.
use Rattle.std.proofs.Common.{ℕ, ◌⊎◌, refl, inl, inr, ⊎_elim}
use Rattle.structure.specs.Problem.{Numbers, Member, Within, Problem, Takes, MadeIn, Touched, Bounded}
use Rattle.structure.specs.Structures.{Node, Path, SolutionStructure, HasSolution, HoldsEvery, Rank}
use Rattle.structure.specs.Structures.Path.{arrived, taken, made}
use Rattle.structure.specs.Supported.{Supported, Largest, any, Collected, Spanned, AllMade, NoneBoth}
use Rattle.structure.proofs.Searches.{decided, made_in, is_made_in, standing_known}
use Rattle.structure.proofs.Unions.{wider, starts_in}

-- what is collected from any supported set in which each wanted material is made
module _ (p : Problem) (g o m : Numbers) (all_made : AllMade p g) (collected : Collected p g o) (spanned : Spanned p o m) where
  pub collected_in : Within o g
  collected_in u i = starts_in ((collected u).0 i).1

  wanted_spanned : Within p.wanted m
  wanted_spanned x w =
      let (v, i, t) = all_made x w in
      (spanned x).1 (v, (collected v).1 (_, made i refl t (arrived refl w)), inr t)

  -- a path through g runs through o
  inside : (a : Node) (k : ℕ) → Path p any g a k → Path p m o a k
  inside a k (arrived i w) = arrived (wanted_spanned _ w) w
  inside a k (taken i j t q) = let e = (collected _).1 (_, q) in taken ((spanned _).1 (_, e, inl t)) e t (inside _ _ q)
  inside a k (made i j t q) = let e = (collected _).1 (_, made i j t q) in made e ((spanned _).1 (_, e, inr t)) t (inside _ _ q)

  module _ (supported : Supported p g) where
    -- what a unit of o takes is bought or made in o
    fed_inside : (u x : ℕ) → Member o u → Takes p u x → (MadeIn p o x → ⊥) → Member p.bought x
    fed_inside u x i t none =
        let (k, q) = (collected u).0 i in
        ⊎_elim (λ e. e) (λ w. absurd (none (w.0, (collected _).1 (_, made w.1 refl w.2 (taken refl (collected_in u i) t q)), w.2)))
        (supported.fed u x (collected_in u i) t)

    unmade_bought : (x : ℕ) → Touched p o x → (MadeIn p o x → ⊥) → Member p.bought x
    unmade_bought x (u, i, t) none = ⊎_elim (λ e. fed_inside u x i e none) (λ e. absurd (none (u, i, e))) t

    pub collected_solves : SolutionStructure p m o
    collected_solves = record {
      lists_inside = λ x t. (spanned x).1 t;
      wanted_inside = wanted_spanned;
      unmade_exactly_bought = λ x i. (unmade_bought x ((spanned x).0 i), λ e w. supported.none_bought w.0 x (collected_in _ w.1) w.2 e);
      units_stand = λ u i. supported.stand u (collected_in u i);
      leads_to_wanted = λ u i. let l = (collected u).0 i in (l.0, inside _ _ l.1);
      materials_used = λ x i. (spanned x).0 i;
    }

  -- a rank among the units of g is a rank inside what was collected
  pub rank_inside : (u k : ℕ) → Rank p any g u k → Rank p m o u k
  rank_inside u k r = record {
    reached = inside _ _ r.reached;
    least = λ j q. r.least j (wider p m o any g (λ _ _. refl) collected_in _ _ q);
  }

module _ (p : Problem) (bounded : Bounded p) where
  -- some unit of o makes x, or none does
  pub made_or_not : (o : Numbers) → Within o p.standing → (x : ℕ) → MadeIn p o x ⊎ (MadeIn p o x → ⊥)
  made_or_not o stand x =
      decided (made_in p o x) (is_made_in p o (standing_known p bounded o stand) x)

  made_or_bought : (m o : Numbers) → SolutionStructure p m o → (x : ℕ) → Member m x → Member p.bought x ⊎ MadeIn p o x
  made_or_bought m o s x h = ⊎_elim inr (λ none. inl ((s.unmade_exactly_bought x h).0 none)) (made_or_not o s.units_stand x)

  solution_supported : (m o : Numbers) → SolutionStructure p m o → Supported p o
  solution_supported m o s = record {
    stand = s.units_stand;
    none_bought = λ u x i k e. (s.unmade_exactly_bought x (s.lists_inside x (u, i, inr k))).1 e (u, i, k);
    fed = λ u x i k. made_or_bought m o s x (s.lists_inside x (u, i, inl k));
  }

  pub solution_in_largest : (g m o : Numbers) → Largest p g → SolutionStructure p m o → Within o g
  solution_in_largest g m o large s = large.all o (solution_supported m o s)

  -- where there is a solution-structure, each wanted material is made in the largest supported set
  pub none_where_unmade : NoneBoth p → (g : Numbers) → Largest p g → (x : ℕ) → Member p.wanted x → (MadeIn p g x → ⊥) → HasSolution p → ⊥
  none_where_unmade apart g large x w none (m, o, s) =
      ⊎_elim (λ e. apart x w e) (λ k. none (k.0, solution_in_largest g m o large s k.0 k.1, k.2))
      (made_or_bought m o s x (s.wanted_inside x w))

  module _ (g o m : Numbers) (large : Largest p g) (all_made : AllMade p g) (collected : Collected p g o) (spanned : Spanned p o m) where
    units_in : (m' o' : Numbers) → SolutionStructure p m' o' → Within o' o
    units_in m' o' s u i =
        let (k, q) = s.leads_to_wanted u i in
        (collected u).1 (k, wider p m' o' any g (λ _ _. refl) (solution_in_largest g m' o' large s) _ _ q)

    pub collected_holds_every : HoldsEvery p m o
    collected_holds_every = record {
      solution = collected_solves p g o m all_made collected spanned large.supported;
      materials_inside = λ m' o' s x i. let (u, j, t) = s.materials_used x i in (spanned x).1 (u, units_in m' o' s u j, t);
      units_inside = units_in;
    }
