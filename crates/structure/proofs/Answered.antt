-- The answer of a draw: it leaves no choice, and what it marks drawn is the maximal structure.
use Rattle.std.proofs.Common.{◌≡◌, ℕ, false, List, [], ◌∷◌, Ok, Err, Decides, count_by, Result, sym, refl, ap, ◌∙◌, subst, subst₂, inl, inr, ⊎_elim, arith}
use Rattle.std.proofs.lemmas.Bool.{cases_Bool, both_ways, false≢true, true_from_ne_false}
use Rattle.book.specs.declared.Refusal.{Refusal}
use Rattle.book.specs.declared.Refusal.TheVariants.{Impossible}
use Rattle.structure.specs.declared.Mark.{Mark}
use Rattle.structure.specs.declared.Mark.TheVariants.{Unasked, Idle, Drawn}
use Rattle.structure.specs.Problem.{Numbers, Member, Within, Problem, Bounded}
use Rattle.structure.specs.Structures.{UnionOfAll, Rank}
use Rattle.structure.specs.Answers.{Drawing, is_drawn, mark_of, rank_of, drawn, Marked, Shows, Ground, FirstHolds, NoneHolds, draw_grounds, Draws, ImpossibleExactly, DrawnHoldsEvery, DrawnExactlyInSome}
use Rattle.structure.proofs.Unions.{unit_there, material_there, wanted_in, union_holds_every}
use Rattle.structure.proofs.Entries.{same_entries}

-- of an ordered list of grounds one refusal at most is given, and none where no ground holds
one_refusal : (gs : List Ground) (e f : Refusal) → FirstHolds gs e → FirstHolds gs f → f ≡ e
one_refusal [] e f a b = absurd a
one_refusal (g ∷ gs) e f (inl x) (inl y) = y.1 ∙ sym x.1
one_refusal (g ∷ gs) e f (inl x) (inr y) = absurd (y.0 x.0)
one_refusal (g ∷ gs) e f (inr x) (inl y) = absurd (x.0 y.0)
one_refusal (g ∷ gs) e f (inr x) (inr y) = one_refusal gs e f x.1 y.1

no_refusal : (gs : List Ground) (e : Refusal) → NoneHolds gs → FirstHolds gs e → ⊥
no_refusal [] e a b = b
no_refusal (g ∷ gs) e a (inl y) = a.0 y.0
no_refusal (g ∷ gs) e a (inr y) = no_refusal gs e a.1 y.1

-- what a mark stands for excludes what any other stands for, and a mark is drawn exactly where some solution-structure
-- has what it marks
module _ (there in_some : Type 0) (some-there : in_some → there) where
  one_mark : (a b : Mark) → Marked there in_some a → Marked there in_some b → b ≡ a
  one_mark Unasked Unasked x y = refl
  one_mark Unasked Idle x y = absurd (x y.0)
  one_mark Unasked Drawn x y = absurd (x (some-there y))
  one_mark Idle Unasked x y = absurd (y x.0)
  one_mark Idle Idle x y = refl
  one_mark Idle Drawn x y = absurd (x.1 y)
  one_mark Drawn Unasked x y = absurd (y (some-there x))
  one_mark Drawn Idle x y = absurd (y.1 x)
  one_mark Drawn Drawn x y = refl

  drawn_exactly : (a : Mark) → Marked there in_some a → Decides (is_drawn a) in_some
  drawn_exactly Unasked x = (λ e. absurd (false≢true e), λ w. absurd (x (some-there w)))
  drawn_exactly Idle x = (λ e. absurd (false≢true e), λ w. absurd (x.1 w))
  drawn_exactly Drawn x = (λ _. x, λ _. refl)

-- a unit has one rank
one_rank : (p : Problem) (m o : Numbers) (u j k : ℕ) → Rank p m o u j → Rank p m o u k → k ≡ j
one_rank p m o u j k a b = let x = a.least k b.reached in let y = b.least j a.reached in omega arith

abbrev sheet : List Mark → List Mark → List ℕ → ℕ → ℕ → Drawing
sheet us ms rs j k = record { unit_marks = us; material_marks = ms; ranks = rs; units_drawn = j; materials_drawn = k }

module _ (p : Problem) (bounded : Bounded p) (c d : Drawing) (a : Shows p c) (b : Shows p d) where
  same_unit_marks : d.unit_marks ≡ c.unit_marks
  same_unit_marks = same_entries Unasked d.unit_marks c.unit_marks (b.unit_places ∙ sym a.unit_places) (λ u. one_mark _ _ (unit_there p u) _ _ (a.units u) (b.units u))

  same_material_marks : d.material_marks ≡ c.material_marks
  same_material_marks = same_entries Unasked d.material_marks c.material_marks (b.material_places ∙ sym a.material_places) (λ x. one_mark _ _ (material_there p bounded x) _ _ (a.materials x) (b.materials x))

  same_rank : (u : ℕ) → rank_of d.ranks u ≡ rank_of c.ranks u
  same_rank u =
      let ranked = subst₂ (λ (ms os : List Mark). Member (drawn os) u → Rank p (drawn ms) (drawn os) u (rank_of d.ranks u)) same_material_marks same_unit_marks (b.ranked u) in
      let unranked = subst (λ (os : List Mark). (Member (drawn os) u → ⊥) → rank_of d.ranks u ≡ 0) same_unit_marks (b.unranked u) in
      ⊎_elim
      (λ (i : Member (drawn c.unit_marks) u). one_rank p (drawn c.material_marks) (drawn c.unit_marks) u _ _ (a.ranked u i) (ranked i))
      (λ (i : drawn c.unit_marks u ≡ false). let out = both_ways (drawn c.unit_marks u) i in unranked out ∙ sym (a.unranked u out))
      (cases_Bool (drawn c.unit_marks u))

  one_drawing : d ≡ c
  one_drawing =
      let units = same_unit_marks in
      let materials = same_material_marks in
      let ranks = same_entries 0 d.ranks c.ranks (b.rank_places ∙ sym a.rank_places) same_rank in
      let unit_count = b.units_counted ∙ (ap (count_by is_drawn) units ∙ sym a.units_counted) in
      let material_count = b.materials_counted ∙ (ap (count_by is_drawn) materials ∙ sym a.materials_counted) in
      let same : sheet d.unit_marks d.material_marks d.ranks d.units_drawn d.materials_drawn ≡ sheet c.unit_marks c.material_marks c.ranks c.units_drawn c.materials_drawn = cc in
      same

pub one_answer : (p : Problem) → Bounded p → (r s : Result Drawing Refusal) → Draws p r → Draws p s → s ≡ r
one_answer p bounded (Ok c) (Ok d) a b = ap Ok (one_drawing p bounded c d a.1 b.1)
one_answer p bounded (Ok c) (Err e) a b = absurd (no_refusal (draw_grounds p) e a.0 b)
one_answer p bounded (Err e) (Ok d) a b = absurd (no_refusal (draw_grounds p) e b.0 a)
one_answer p bounded (Err e) (Err f) a b = ap Err (one_refusal (draw_grounds p) e f a b)

-- what is marked drawn is the union of all solution-structures
pub exactly_in_some : (p : Problem) → Bounded p → (r : Result Drawing Refusal) → Draws p r → DrawnExactlyInSome p r
exactly_in_some p bounded (Ok d) (none, shown) = record {
  materials = λ x. drawn_exactly _ _ (material_there p bounded x) (mark_of d.material_marks x) (shown.materials x);
  units = λ u. drawn_exactly _ _ (unit_there p u) (mark_of d.unit_marks u) (shown.units u);
}
exactly_in_some p bounded (Err e) _ = tt

pub holds_every : (p : Problem) → Bounded p → (r : Result Drawing Refusal) → Draws p r → DrawnHoldsEvery p r
holds_every p bounded (Err e) _ = tt
holds_every p bounded (Ok d) (none, shown) = union_holds_every p m _ all wanted
  where
    m : Numbers
    m = drawn d.material_marks

    all : UnionOfAll p (drawn d.material_marks) (drawn d.unit_marks)
    all = exactly_in_some p bounded (Ok d) (none, shown)

    wanted : Within p.wanted (drawn d.material_marks)
    wanted x w = true_from_ne_false (m x) (λ e. none.1.1.1.0 (λ some. both_ways (m x) e (wanted_in p _ _ all some x w)))

-- refused as impossible exactly where there is no solution-structure, if no earlier ground holds
pub impossible_exactly : (p : Problem) (r : Result Drawing Refusal) → Draws p r → ImpossibleExactly p r
impossible_exactly p (Ok d) (none, shown) w b apart = (λ e. absurd (cc), λ no-solution. absurd (none.1.1.1.0 no-solution))
impossible_exactly p (Err e) first w b apart = (
  λ i. ⊎_elim (λ x. absurd (x.0 w)) (λ x. ⊎_elim (λ y. absurd (y.0 b)) (λ y. ⊎_elim (λ z. absurd (apart z.0.0 z.0.1 z.0.2)) (λ z. ⊎_elim (λ t. t.0) (λ t. absurd t.1) z.1) y.1) x.1) first,
  λ no-solution. ap Err (one_refusal (draw_grounds p) Impossible e (inr (λ x. x w, inr (λ x. x b, inr (λ x. apart x.0 x.1 x.2, inl (no-solution, refl))))) first),
)
