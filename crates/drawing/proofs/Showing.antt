-- A sheet that is written from the ranks within the largest supported set shows the maximal structure.
use Rattle.std.proofs.Common.{◌≡◌, ℕ, zero, suc, ◌+◌, ◌-◌, ◌<◌, ◌≤◌, false, List, length, get_or, drop, sym, refl, ap, ◌∙◌, ⊎_elim, arith}
use Rattle.std.proofs.lemmas.List.{get_or-drop, length-drop}
use Rattle.std.proofs.lemmas.Bool.{cases_Bool, ltb-true, ltb-false}
use Rattle.std.proofs.lemmas.Bool.Decides.{same_from_decides}
use Rattle.book.specs.Declined.{inside}
use Rattle.structure.specs.declared.Mark.TheVariants.{Unasked}
use Rattle.structure.specs.Problem.{Numbers, Member, Problem, Bounded}
use Rattle.structure.specs.Structures.{Path, Rank, UnionOfAll, HoldsEvery}
use Rattle.structure.specs.Structures.Node.{unit}
use Rattle.structure.specs.Supported.{Largest, any, Collected, AllMade}
use Rattle.structure.specs.Answers.{Drawing, mark_for, Shows}
use Rattle.structure.proofs.Searches.{decided, is_inside}
use Rattle.structure.proofs.Unions.{holds_every_is_union}
use Rattle.structure.proofs.Collecting.{collected_holds_every, rank_inside}
use Rattle.structure.proofs.Entries.{entry, entry_at, entry_none}
use Rattle.structure.proofs.Sheets.{shows_by_number, unit_known, unit_unasked, material_unasked}
use Rattle.drawing.specs.Composition.{Composed}
use Rattle.drawing.specs.Picture.{ranked, Pictured}

-- a list of 1,024 values, written from a function of the number, has them for every number, if the others are as on a new sheet
written_entry : {X : Type 0} (fresh : X) (xs : List X) (f : ℕ → X) → length xs ≡ 1024 → ((k : ℕ) → k < 1024 → get_or xs k fresh ≡ f (k + 1)) → ((k : ℕ) → ((1 ≤ k) × (k ≤ 1024) → ⊥) → f k ≡ fresh) →
    (k : ℕ) → entry fresh xs k ≡ f k
written_entry fresh xs f long each outside k =
    ⊎_elim
    (λ within.
    let back : k - 1 + 1 ≡ k = omega (arith, within.0) in
    entry_at fresh xs k within.0 (omega (arith, within.1)) ∙ (each (k - 1) (omega (arith, within.0, within.1)) ∙ ap f back))
    (λ out. entry_none fresh xs k (λ w. out (w.0, omega (arith, w.1))) ∙ sym (outside k out))
    (decided (inside k 1024) (is_inside k 1024))

module _ (p : Problem) (bounded : Bounded p) (few_units : p.units ≤ 1024) (few_materials : p.materials ≤ 1024)
    (g : Numbers) (large : Largest p g) (all_made : AllMade p g) (ranks : List ℕ) (composed : Composed p g ranks) (d : Drawing) (picture : Pictured p ranks d) where
  -- a number that has a rank has one of 1 and more, and one that has none has rank 0
  rank_above : (P : ℕ → Type 0) (u : ℕ) → ((k : ℕ) → get_or ranks u 0 ≡ suc k → P (suc k)) → Member (ranked ranks) u → P (get_or ranks u 0)
  rank_above P u each i = by_rank (get_or ranks u 0) refl (ltb-true 0 (get_or ranks u 0) i)
    where
      by_rank : (r : ℕ) → get_or ranks u 0 ≡ r → 0 < r → P r
      by_rank zero e h = absurd (omega arith)
      by_rank (suc k) e h = each k e

  rank_none : (u : ℕ) → (Member (ranked ranks) u → ⊥) → get_or ranks u 0 ≡ 0
  rank_none u out = ⊎_elim (λ t. absurd (out t)) (λ f. omega (arith, ltb-false 0 (get_or ranks u 0) f)) (cases_Bool (ranked ranks u))

  -- a number has a rank exactly if a path leads from it
  collected : Collected p g (ranked ranks)
  collected u = (
    λ i. (get_or ranks u 0, rank_above (λ r. Path p any g (unit u) r) u (λ k e. (composed.ranked u k e).reached) i),
    λ w. ⊎_elim (λ t. t) (λ (f : ranked ranks u ≡ false). absurd (composed.unranked u w.0 (omega (arith, ltb-false 0 (get_or ranks u 0) f)) w.1)) (cases_Bool (ranked ranks u)),
  )

  pub every : HoldsEvery p picture.drawn_materials (ranked ranks)
  every = collected_holds_every p bounded g (ranked ranks) picture.drawn_materials large all_made collected picture.spanned

  union : UnionOfAll p picture.drawn_materials (ranked ranks)
  union = holds_every_is_union p picture.drawn_materials (ranked ranks) every

  ranks_are : d.ranks ≡ drop 1 ranks
  ranks_are = ap (λ (e : Drawing). e.ranks) picture.written

  ranks_long : length d.ranks ≡ 1024
  ranks_long = ap length ranks_are ∙ (length-drop 1 ranks ∙ ap (λ (n : ℕ). n - 1) composed.long)

  rank_at : (k : ℕ) → k < 1024 → get_or d.ranks k 0 ≡ get_or ranks (k + 1) 0
  rank_at k h = let turned : 1 + k ≡ k + 1 = omega arith in ap (λ (rs : List ℕ). get_or rs k 0) ranks_are ∙ (get_or-drop 1 ranks k 0 ∙ ap (λ (i : ℕ). get_or ranks i 0) turned)

  known_are : (x : ℕ) → picture.known x ≡ inside x p.materials
  known_are x = same_from_decides (picture.known x) (inside x p.materials) (picture.up_to x) (is_inside x p.materials)

  unit_past : (u : ℕ) → ((1 ≤ u) × (u ≤ 1024) → ⊥) → (1 ≤ u) × (u ≤ p.units) → ⊥
  unit_past u out w = out (w.0, omega (arith, w.1))

  material_past : (x : ℕ) → ((1 ≤ x) × (x ≤ 1024) → ⊥) → (1 ≤ x) × (x ≤ p.materials) → ⊥
  material_past x out w = out (w.0, omega (arith, w.1))

  pub shows : Shows p d
  shows =
      shows_by_number p picture.drawn_materials (ranked ranks) union (λ u. get_or ranks u 0)
      (λ u i. rank_above (λ r. Rank p picture.drawn_materials (ranked ranks) u r) u (λ k e. rank_inside p g (ranked ranks) picture.drawn_materials all_made collected picture.spanned u (suc k) (composed.ranked u k e)) i)
      rank_none d record {
        unit_places = picture.unit_marks.long;
        material_places = picture.material_marks.long;
        rank_places = ranks_long;
        unit_marks = written_entry Unasked d.unit_marks (λ u. mark_for (ranked ranks u) (p.standing u)) picture.unit_marks.long picture.unit_marks.each
            (λ u out. unit_unasked p bounded picture.drawn_materials (ranked ranks) union u (unit_past u out));
        material_marks = written_entry Unasked d.material_marks (λ x. mark_for (picture.drawn_materials x) (inside x p.materials)) picture.material_marks.long
            (λ k h. picture.material_marks.each k h ∙ ap (mark_for (picture.drawn_materials (k + 1))) (known_are (k + 1)))
            (λ x out. material_unasked p bounded picture.drawn_materials (ranked ranks) union x (material_past x out));
        ranks = written_entry 0 d.ranks (λ u. get_or ranks u 0) ranks_long rank_at (λ u out. rank_none u (λ i. unit_past u out (unit_known p bounded picture.drawn_materials (ranked ranks) union u i)));
        units_counted = ap (λ (e : Drawing). e.units_drawn) picture.written;
        materials_counted = ap (λ (e : Drawing). e.materials_drawn) picture.written;
      }
