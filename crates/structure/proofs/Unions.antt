-- The union of all solution-structures is the one that holds every other.
use Rattle.std.proofs.Common.{◌≡◌, ℕ, ◌≤◌, inr, ⊎_elim}
use mathlib.Core.Path.{fun_ext}
use Rattle.std.proofs.lemmas.Bool.Decides.{same_from_decides}
use Rattle.structure.specs.Problem.{Numbers, Member, Within, Problem, MadeIn, Touched, Bounded}
use Rattle.structure.specs.Structures.{Node, Path, SolutionStructure, HasSolution, UnitInSome, MaterialInSome, UnionOfAll, HoldsEvery}
use Rattle.structure.specs.Structures.Path.{arrived, taken, made}

-- what a unit of bounded lists touches is a material of the book
pub touched_known : (p : Problem) → Bounded p → (o : Numbers) (x : ℕ) → Touched p o x → (1 ≤ x) × (x ≤ p.materials)
touched_known p b o x (u, i, t) = ⊎_elim (b.inputs_known u x) (b.outputs_known u x) t

-- a unit that some solution-structure has stands, and a material that some has is one of the book's
pub unit_there : (p : Problem) (u : ℕ) → UnitInSome p u → Member p.standing u
unit_there p u (m, o, s, i) = s.units_stand u i

pub material_there : (p : Problem) → Bounded p → (x : ℕ) → MaterialInSome p x → (1 ≤ x) × (x ≤ p.materials)
material_there p bounded x (m, o, s, i) = touched_known p bounded o x (s.materials_used x i)

-- a path through fewer materials and units is one through more
pub wider : (p : Problem) (m o m' o' : Numbers) → Within m m' → Within o o' → (a : Node) (k : ℕ) → Path p m o a k → Path p m' o' a k
wider p m o m' o' f g a k (arrived i w) = arrived (f _ i) w
wider p m o m' o' f g a k (taken i j t q) = taken (f _ i) (g _ j) t (wider p m o m' o' f g _ _ q)
wider p m o m' o' f g a k (made i j t q) = made (g _ i) (f _ j) t (wider p m o m' o' f g _ _ q)

-- a path from a unit runs through that unit
pub starts_in : {p : Problem} {m o : Numbers} {u k : ℕ} → Path p m o (Node.unit u) k → Member o u
starts_in (made i j t q) = i

module _ (p : Problem) (m o : Numbers) (all : UnionOfAll p m o) where
  materials_in : (m' o' : Numbers) → SolutionStructure p m' o' → Within m' m
  materials_in m' o' s x i = (all.materials x).1 (m', o', s, i)

  units_in : (m' o' : Numbers) → SolutionStructure p m' o' → Within o' o
  units_in m' o' s u i = (all.units u).1 (m', o', s, i)

  -- a bought material is made in no solution-structure, so in no union of them
  bought_unmade : (x : ℕ) → Member p.bought x → MadeIn p o x → ⊥
  bought_unmade x b (u, i, t) =
      let (m', o', s, j) = (all.units u).0 i in
      (s.unmade_exactly_bought x (s.lists_inside x (u, j, inr t))).1 b (u, j, t)

  touched_inside : (x : ℕ) → Touched p o x → Member m x
  touched_inside x (u, i, t) =
      let (m', o', s, j) = (all.units u).0 i in
      materials_in m' o' s x (s.lists_inside x (u, j, t))

  unmade_bought : (x : ℕ) → Member m x → (MadeIn p o x → ⊥) → Member p.bought x
  unmade_bought x i none =
      let (m', o', s, j) = (all.materials x).0 i in
      (s.unmade_exactly_bought x j).0 (λ w. none (w.0, units_in m' o' s w.0 w.1, w.2))

  leads : (u : ℕ) → Member o u → (k : ℕ) × Path p m o (Node.unit u) k
  leads u i =
      let (m', o', s, j) = (all.units u).0 i in
      let (k, q) = s.leads_to_wanted u j in
      (k, wider p m' o' m o (materials_in m' o' s) (units_in m' o' s) _ _ q)

  used : (x : ℕ) → Member m x → Touched p o x
  used x i =
      let (m', o', s, j) = (all.materials x).0 i in
      let (u, l, t) = s.materials_used x j in
      (u, units_in m' o' s u l, t)

  -- it has all that is wanted where one solution-structure has
  pub wanted_in : HasSolution p → Within p.wanted m
  wanted_in (m', o', s) x w = materials_in m' o' s x (s.wanted_inside x w)

  pub union_holds_every : Within p.wanted m → HoldsEvery p m o
  union_holds_every wanted = record {
    solution = record {
      lists_inside = touched_inside;
      wanted_inside = wanted;
      unmade_exactly_bought = λ x i. (unmade_bought x i, bought_unmade x);
      units_stand = λ u i. let (m', o', s, j) = (all.units u).0 i in s.units_stand u j;
      leads_to_wanted = leads;
      materials_used = used;
    };
    materials_inside = materials_in;
    units_inside = units_in;
  }

pub holds_every_is_union : (p : Problem) (m o : Numbers) → HoldsEvery p m o → UnionOfAll p m o
holds_every_is_union p m o h = record {
  materials = λ x. (λ i. (m, o, h.solution, i), λ w. h.materials_inside w.0 w.1 w.2 x w.3);
  units = λ u. (λ i. (m, o, h.solution, i), λ w. h.units_inside w.0 w.1 w.2 u w.3);
}

pub one_union : (p : Problem) (m o m' o' : Numbers) → UnionOfAll p m o → UnionOfAll p m' o' → (m' ≡ m) × (o' ≡ o)
one_union p m o m' o' a b = (
  fun_ext (λ x. same_from_decides (m' x) (m x) (b.materials x) (a.materials x)),
  fun_ext (λ u. same_from_decides (o' u) (o u) (b.units u) (a.units u)),
)
