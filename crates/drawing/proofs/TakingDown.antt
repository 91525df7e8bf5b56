-- What is taken down so far: all that is told of the numbers below one.
use Rattle.std.proofs.Common.{◌≡◌, ℕ, ◌+◌, ◌<◌, ◌≤◌, Bool, true, false, cond, eqb, ltb, ◌⊎◌, List, [], ◌∷◌, ◌++◌, get_or, set, sym, refl, ap, ◌∙◌, ⊎_elim, arith, length-set}
use mathlib.Core.Path.{fun_ext}
use Rattle.std.proofs.lemmas.List.{get_or-set_same, get_or-set_other}
use Rattle.std.proofs.lemmas.Bool.{cases_eq, cases_lt, cases_order, lt-ltb, le-ltb, eq-eqb, ne_eqb, cond-true, cond-false, false≢true}
use Rattle.book.specs.Meaning.{Meaning, material_count, unit_count, WellFormed}
use Rattle.book.specs.Layers.{names}
use Rattle.structure.specs.Problem.{Numbers, Bounded, problem}
use Rattle.structure.proofs.Bounds.{problem_bounded}
use Rattle.drawing.specs.declared.lists.SideLists.{SideLists}
use Rattle.drawing.specs.Flags.{Flags}
use Rattle.drawing.specs.Lists.{with_entry, with_list}
use Rattle.drawing.specs.Sides.{list_at, Holds, problem_of}

-- f of the numbers below n; of any other it is `none`
abbrev pub below : {X : Type 0} → ℕ → X → (ℕ → X) → ℕ → X
below n none f k = cond (ltb k n) (f k) none

module _ {X : Type 0} (none : X) (f : ℕ → X) where
  there : (n k : ℕ) → k < n → below n none f k ≡ f k
  there n k l = cond-true (ltb k n) (f k) none (lt-ltb k n l)

  not_there : (n k : ℕ) → n ≤ k → below n none f k ≡ none
  not_there n k l = cond-false (ltb k n) (f k) none (le-ltb k n l)

  pub below_first : f 0 ≡ none → (k : ℕ) → below 1 none f k ≡ none
  below_first z k =
      ⊎_elim
      (λ (l : k < 1). let e : k ≡ 0 = omega arith in there 1 k l ∙ (ap f e ∙ z))
      (λ (l : 1 ≤ k). not_there 1 k l)
      (cases_lt k 1)

  pub below_all : (n k : ℕ) → ((j : ℕ) → n ≤ j → f j ≡ none) → below n none f k ≡ f k
  below_all n k past = ⊎_elim (λ (l : k < n). there n k l) (λ (l : n ≤ k). not_there n k l ∙ sym (past k l)) (cases_lt k n)

  pub below_more : (n k : ℕ) → below (n + 1) none f k ≡ cond (eqb k n) (f n) (below n none f k)
  below_more n k =
      ⊎_elim
      (λ (e : k ≡ n). there (n + 1) k (omega arith) ∙ (ap f e ∙ sym (cond-true (eqb k n) (f n) (below n none f k) (eq-eqb k n e))))
      (λ (d : (k < n) ⊎ (n < k)).
      ⊎_elim (λ (l : k < n). there (n + 1) k (omega arith) ∙ sym (there n k l)) (λ (l : n < k). not_there (n + 1) k (omega arith) ∙ sym (not_there n k (omega arith))) d
      ∙ sym (cond-false (eqb k n) (f n) (below n none f k) (ne_eqb k n (λ e. ⊎_elim (λ (l : k < n). omega arith) (λ (l : n < k). omega arith) d))))
      (cases_order k n)

  -- a number of which there is nothing to tell adds nothing
  pub below_same : (n k : ℕ) → f n ≡ none → below n none f k ≡ below (n + 1) none f k
  below_same n k z =
      ⊎_elim
      (λ (e : k ≡ n). not_there n k (omega arith) ∙ (sym z ∙ (ap f (sym e) ∙ sym (there (n + 1) k (omega arith)))))
      (λ (d : k ≡ n → ⊥). sym (below_more n k ∙ cond-false (eqb k n) (f n) (below n none f k) (ne_eqb k n d)))
      (cases_eq k n)

pub flags_like : (flags : List Bool) (s t : Numbers) → Flags flags s → ((k : ℕ) → s k ≡ t k) → Flags flags t
flags_like flags s t a same = record { long = a.long; each = λ k. a.each k ∙ same k }

pub holds_like : (side : SideLists) (f g : ℕ → List ℕ) → Holds side f → ((k : ℕ) → f k ≡ g k) → Holds side g
holds_like side f g a same k = a k ∙ same k

-- no flag is read yet, and then all are
pub flags_none : (flags : List Bool) (s : Numbers) → Flags flags (λ _. false) → s 0 ≡ false → Flags flags (below 1 false s)
flags_none flags s a z = flags_like flags (λ _. false) (below 1 false s) a (λ k. sym (below_first false s z k))

pub flags_all : (flags : List Bool) (s : Numbers) (n : ℕ) → Flags flags (below n false s) → ((j : ℕ) → n ≤ j → s j ≡ false) → Flags flags s
flags_all flags s n a past = flags_like flags (below n false s) s a (λ k. below_all false s n k past)

-- one more flag
pub flags_more : (flags : List Bool) (s : Numbers) (n : ℕ) (b : Bool) → n ≤ 1024 → Flags flags (below n false s) → b ≡ s n → Flags (set flags n b) (below (n + 1) false s)
flags_more flags s n b l a e = record {
  long = length-set flags n b ∙ a.long;
  each = λ k.
      ⊎_elim
      (λ (c : k ≡ n).
      ap (λ (j : ℕ). get_or (set flags n b) j false) c ∙ (get_or-set_same flags n b false (omega (arith, a.long))
      ∙ (e ∙ sym (below_more false s n k ∙ cond-true (eqb k n) (s n) (below n false s k) (eq-eqb k n c)))))
      (λ (c : k ≡ n → ⊥).
      get_or-set_other flags n k b false c
      ∙ (a.each k ∙ sym (below_more false s n k ∙ cond-false (eqb k n) (s n) (below n false s k) (ne_eqb k n c))))
      (cases_eq k n);
}

-- no list is read yet, and then all are
pub lists_none : (side : SideLists) (f : ℕ → List ℕ) → Holds side (λ _. []) → f 0 ≡ [] → Holds side (below 1 [] f)
lists_none side f a z = holds_like side (λ _. []) (below 1 [] f) a (λ k. sym (below_first [] f z k))

pub lists_all : (side : SideLists) (f : ℕ → List ℕ) (n : ℕ) → Holds side (below n [] f) → ((j : ℕ) → n ≤ j → f j ≡ []) → Holds side f
lists_all side f n a past = holds_like side (below n [] f) f a (λ k. below_all [] f n k past)

-- a unit with no list adds nothing, and from the next unit on there are none yet
pub lists_same : (side : SideLists) (f : ℕ → List ℕ) (n : ℕ) → Holds side (below n [] f) → f n ≡ [] → Holds side (below (n + 1) [] f)
lists_same side f n a z = holds_like side (below n [] f) (below (n + 1) [] f) a (λ k. below_same [] f n k z)

pub lists_past : (side : SideLists) (f : ℕ → List ℕ) (n : ℕ) → Holds side (below n [] f) → (v : ℕ) → n ≤ v → list_at side v ≡ []
lists_past side f n a v l = a v ∙ not_there [] f n v l

-- one more list
pub lists_more : (s t : SideLists) (f : ℕ → List ℕ) (n : ℕ) (xs : List ℕ) → Holds s (below n [] f) → Holds t (with_list (list_at s) n xs) → xs ≡ f n → Holds t (below (n + 1) [] f)
lists_more s t f n xs a b e =
    holds_like t (with_list (list_at s) n xs) (below (n + 1) [] f) b
    (λ k. ap (λ (ys : List ℕ). cond (eqb k n) ys (list_at s k)) e ∙ (ap (λ (ys : List ℕ). cond (eqb k n) (f n) ys) (a k) ∙ sym (below_more [] f n k)))

-- a list that is read from its start
module _ (s : SideLists) (lists : ℕ → List ℕ) (u : ℕ) (xs : List ℕ) (a : Holds s (with_list lists u xs)) where
  pub list_own : list_at s u ≡ xs
  list_own = a u ∙ cond-true (eqb u u) xs (lists u) (eq-eqb u u refl)

  pub list_other : (v : ℕ) → (v ≡ u → ⊥) → list_at s v ≡ lists v
  list_other v d = a v ∙ cond-false (eqb v u) xs (lists v) (ne_eqb v u d)

  pub list_more : (t : SideLists) (x : ℕ) → Holds t (with_entry (list_at s) u x) → Holds t (with_list lists u (xs ++ (x ∷ [])))
  list_more t x b =
      holds_like t (with_entry (list_at s) u x) (with_list lists u (xs ++ (x ∷ []))) b
      (λ v. one_more (eqb v u) (list_at s v) (lists v) (a v))
    where
      one_more : (c : Bool) (ys zs : List ℕ) → ys ≡ cond c xs zs → cond c (ys ++ (x ∷ [])) ys ≡ cond c (xs ++ (x ∷ [])) zs
      one_more true ys zs e = ap (λ (l : List ℕ). l ++ (x ∷ [])) e
      one_more false ys zs e = e

pub list_first : (s : SideLists) (u : ℕ) → list_at s u ≡ [] → Holds s (with_list (list_at s) u [])
list_first s u e v =
    ⊎_elim
    (λ (c : v ≡ u). ap (list_at s) c ∙ (e ∙ sym (cond-true (eqb v u) [] (list_at s v) (eq-eqb v u c))))
    (λ (c : v ≡ u → ⊥). sym (cond-false (eqb v u) [] (list_at s v) (ne_eqb v u c)))
    (cases_eq v u)

-- these were read of a book that means m
pub record Read (m : Meaning) (materials units : ℕ) (wanted bought standing : List Bool) (inputs outputs : SideLists) : Type 0 where
  pub materials_told : materials ≡ material_count m
  pub units_told : units ≡ unit_count m
  pub wanted_read : Flags wanted (problem m).wanted
  pub bought_read : Flags bought (problem m).bought
  pub standing_read : Flags standing (problem m).standing
  pub inputs_read : Holds inputs (problem m).inputs
  pub outputs_read : Holds outputs (problem m).outputs

-- they make the problem that the book sets
pub problem_seen : {m : Meaning} {materials units : ℕ} {wanted bought standing : List Bool} {inputs outputs : SideLists} → Read m materials units wanted bought standing inputs outputs →
    problem_of materials units wanted bought standing inputs outputs ≡ problem m
problem_seen r = λ i. record {
  materials = r.materials_told i;
  units = r.units_told i;
  wanted = fun_ext r.wanted_read.each i;
  bought = fun_ext r.bought_read.each i;
  standing = fun_ext r.standing_read.each i;
  inputs = fun_ext r.inputs_read i;
  outputs = fun_ext r.outputs_read i;
}

-- what is known of materials and units is in bounds while no list is read yet
pub bounded_early : {m : Meaning} {materials units : ℕ} {wanted bought standing : List Bool} (inputs outputs : SideLists) → WellFormed m → materials ≡ material_count m → units ≡ unit_count m →
    Flags wanted (problem m).wanted → Flags bought (problem m).bought → Flags standing (problem m).standing → Holds inputs (λ _. []) → Holds outputs (λ _. []) →
    Bounded (problem_of materials units wanted bought standing inputs outputs)
bounded_early {m} inputs outputs well e f w b s i o =
    let bounded = problem_bounded m well in
    record {
      wanted_known = λ x t. let k = bounded.wanted_known x (sym (w.each x) ∙ t) in (k.0, omega (arith, k.1, e));
      bought_known = λ x t. let k = bounded.bought_known x (sym (b.each x) ∙ t) in (k.0, omega (arith, k.1, e));
      units_known = λ u t. let k = bounded.units_known u (sym (s.each u) ∙ t) in (k.0, omega (arith, k.1, f));
      inputs_known = λ u x t. absurd (false≢true (ap (names x) (sym (i u)) ∙ t));
      outputs_known = λ u x t. absurd (false≢true (ap (names x) (sym (o u)) ∙ t));
    }
