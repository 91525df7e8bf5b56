-- A sheet whose marks and ranks are those of the maximal structure shows it.
use Rattle.std.proofs.Common.{◌≡◌, ℕ, ◌≤◌, Bool, true, false, length, Decides, count_by, sym, refl, ap, ◌∙◌, subst, subst₂}
use mathlib.Core.Path.{fun_ext}
use Rattle.std.proofs.lemmas.Bool.{false≢true, false_from_ne_true}
use Rattle.book.specs.Declined.{inside}
use Rattle.structure.specs.declared.Mark.{Mark}
use Rattle.structure.specs.declared.Mark.TheVariants.{Unasked}
use Rattle.structure.specs.Problem.{Numbers, Member, Problem, Bounded}
use Rattle.structure.specs.Structures.{UnionOfAll, Rank}
use Rattle.structure.specs.Answers.{Drawing, is_drawn, mark_of, rank_of, drawn, Marked, mark_for, Shows}
use Rattle.structure.specs.Farms.{first_of}
use Rattle.structure.proofs.Unions.{unit_there, material_there}
use Rattle.structure.proofs.Searches.{itself, is_inside}
use Rattle.structure.proofs.Places.{listed, length_places, entry_listed, drawn_first_of}

-- what is marked drawn by such a mark, and what the mark stands for
drawn_for : (some there : Bool) → is_drawn (mark_for some there) ≡ some
drawn_for true there = refl
drawn_for false true = refl
drawn_for false false = refl

marked_for : (some there : Bool) (There InSome : Type 0) → Decides some InSome → Decides there There → Marked There InSome (mark_for some there)
marked_for true there There InSome a b = a.0 refl
marked_for false true There InSome a b = (b.0 refl, λ i. false≢true (a.1 i))
marked_for false false There InSome a b = λ h. false≢true (b.1 h)

-- a sheet that has, for every number, the marks of (m, o) and the rank r
pub record ByNumber (p : Problem) (m o : Numbers) (r : ℕ → ℕ) (d : Drawing) : Type 0 where
  pub unit_places : length d.unit_marks ≡ 1024
  pub material_places : length d.material_marks ≡ 1024
  pub rank_places : length d.ranks ≡ 1024
  pub unit_marks : (u : ℕ) → mark_of d.unit_marks u ≡ mark_for (o u) (p.standing u)
  pub material_marks : (x : ℕ) → mark_of d.material_marks x ≡ mark_for (m x) (inside x p.materials)
  pub ranks : (u : ℕ) → rank_of d.ranks u ≡ r u
  pub units_counted : d.units_drawn ≡ count_by is_drawn d.unit_marks
  pub materials_counted : d.materials_drawn ≡ count_by is_drawn d.material_marks

-- such a sheet shows the maximal structure, if (m, o) is that, r the rank of each of its units, and 0 for all others
module _ (p : Problem) (m o : Numbers) (all : UnionOfAll p m o) (r : ℕ → ℕ) (ranks : (u : ℕ) → Member o u → Rank p m o u (r u)) (unranked : (u : ℕ) → (Member o u → ⊥) → r u ≡ 0)
    (d : Drawing) (by_number : ByNumber p m o r d) where
  units_drawn : drawn d.unit_marks ≡ o
  units_drawn = fun_ext (λ u. ap is_drawn (by_number.unit_marks u) ∙ drawn_for (o u) (p.standing u))

  materials_drawn : drawn d.material_marks ≡ m
  materials_drawn = fun_ext (λ x. ap is_drawn (by_number.material_marks x) ∙ drawn_for (m x) (inside x p.materials))

  pub shows_by_number : Shows p d
  shows_by_number = record {
    unit_places = by_number.unit_places;
    material_places = by_number.material_places;
    rank_places = by_number.rank_places;
    units = λ u. rw (by_number.unit_marks u) (marked_for (o u) (p.standing u) _ _ (all.units u) (itself (p.standing u)));
    materials = λ x. rw (by_number.material_marks x) (marked_for (m x) (inside x p.materials) _ _ (all.materials x) (is_inside x p.materials));
    ranked = λ u. subst₂ (λ (m' o' : Numbers). Member o' u → Rank p m' o' u (rank_of d.ranks u)) (sym materials_drawn) (sym units_drawn) (λ i. rw (by_number.ranks u) (ranks u i));
    unranked = λ u out. by_number.ranks u ∙ unranked u (subst (λ (s : Numbers). Member s u → ⊥) units_drawn out);
    units_counted = by_number.units_counted;
    materials_counted = by_number.materials_counted;
  }

-- the sheet with these marks for the book's numbers, and with the ranks r
abbrev unit_mark : Problem → Numbers → ℕ → Mark
unit_mark p o u = mark_for (o u) (p.standing u)

abbrev material_mark : Problem → Numbers → ℕ → Mark
material_mark p m x = mark_for (m x) (inside x p.materials)

abbrev pub sheet : Problem → (m o : Numbers) → (ℕ → ℕ) → Drawing
sheet p m o r = record {
  unit_marks = first_of Unasked (listed (unit_mark p o) p.units);
  material_marks = first_of Unasked (listed (material_mark p m) p.materials);
  ranks = first_of 0 (listed r p.units);
  units_drawn = count_by is_drawn (listed (unit_mark p o) p.units);
  materials_drawn = count_by is_drawn (listed (material_mark p m) p.materials);
}

-- a mark is unasked where nothing is drawn and nothing there
unasked_for : (some there : Bool) → (some ≡ true → ⊥) → (there ≡ true → ⊥) → mark_for some there ≡ Unasked
unasked_for some there a b = rw (false_from_ne_true some a, false_from_ne_true there b)

module _ (p : Problem) (bounded : Bounded p) (m o : Numbers) (all : UnionOfAll p m o) where
  -- the units of the maximal structure are among 1 to n, and its materials among 1 to l
  pub unit_known : (u : ℕ) → Member o u → (1 ≤ u) × (u ≤ p.units)
  unit_known u i = bounded.units_known u (unit_there p u ((all.units u).0 i))

  pub material_known : (x : ℕ) → Member m x → (1 ≤ x) × (x ≤ p.materials)
  material_known x i = material_there p bounded x ((all.materials x).0 i)

  -- a number that the book does not have is unasked
  pub unit_unasked : (u : ℕ) → ((1 ≤ u) × (u ≤ p.units) → ⊥) → mark_for (o u) (p.standing u) ≡ Unasked
  unit_unasked u out = unasked_for (o u) (p.standing u) (λ i. out (unit_known u i)) (λ i. out (bounded.units_known u i))

  pub material_unasked : (x : ℕ) → ((1 ≤ x) × (x ≤ p.materials) → ⊥) → mark_for (m x) (inside x p.materials) ≡ Unasked
  material_unasked x out = unasked_for (m x) (inside x p.materials) (λ i. out (material_known x i)) (λ i. out ((is_inside x p.materials).0 i))

  module _ (few_units : p.units ≤ 1024) (few_materials : p.materials ≤ 1024)
      (r : ℕ → ℕ) (ranks : (u : ℕ) → Member o u → Rank p m o u (r u)) (unranked : (u : ℕ) → (Member o u → ⊥) → r u ≡ 0) where
    pub sheet_shows : Shows p (sheet p m o r)
    sheet_shows = shows_by_number p m o all r ranks unranked (sheet p m o r) record {
      unit_places = length_places Unasked (unit_mark p o) p.units few_units;
      material_places = length_places Unasked (material_mark p m) p.materials few_materials;
      rank_places = length_places 0 r p.units few_units;
      unit_marks = entry_listed Unasked (unit_mark p o) p.units few_units unit_unasked;
      material_marks = entry_listed Unasked (material_mark p m) p.materials few_materials material_unasked;
      ranks = entry_listed 0 r p.units few_units (λ u out. unranked u (λ i. out (unit_known u i)));
      units_counted = drawn_first_of (listed (unit_mark p o) p.units);
      materials_counted = drawn_first_of (listed (material_mark p m) p.materials);
    }
