-- Tests over the numbers below a bound, over the entries of a list and over the units of a set, each with what it decides.
use Rattle.std.proofs.Common.{◌≡◌, ℕ, zero, suc, ◌<◌, ◌≤◌, Bool, true, false, ◌&&◌, ◌||◌, eqb, leb, ◌⊎◌, List, [], ◌∷◌, Decides, refl, inl, inr, ⊎_elim, arith}
use Rattle.std.specs.List.{AllByRecursion}
use Rattle.std.proofs.lemmas.Bool.{cases_Bool, or_cases, or_left, or_right, eqb-true, eq-eqb, leb-true, le-leb, false≢true}
use Rattle.std.proofs.lemmas.Bool.Decides.{Decides-and, Decides-like, Decides-or, Decides-below_and, Decides-below_or, not_from_Decides}
use Rattle.std.proofs.ByRecursion.{Decides-by_and}
use Rattle.book.specs.Declined.{inside}
use Rattle.book.specs.Layers.{names}
use Rattle.structure.specs.Problem.{Numbers, Member, Within, Problem, Takes, MadeIn, Bounded}

-- a test decides that it passes
abbrev pub itself : (t : Bool) → Decides t (t ≡ true)
itself t = (λ e. e, λ e. e)

-- what is decided holds or does not
pub decided : {P : Type 0} (t : Bool) → Decides t P → P ⊎ (P → ⊥)
decided t d = ⊎_elim (λ e. inl (d.0 e)) (λ e. inr (not_from_Decides t d e)) (cases_Bool t)

-- k is a number from 1 to n
pub is_inside : (k n : ℕ) → Decides (inside k n) ((1 ≤ k) × (k ≤ n))
is_inside k n = Decides-and (leb 1 k) (leb k n) (leb-true 1 k, le-leb 1 k) (leb-true k n, le-leb k n)

-- some number below n passes; each does
abbrev pub some_below : Numbers → ℕ → Bool
some_below test zero = false
some_below test (suc n) = test n || some_below test n

abbrev pub each_below : Numbers → ℕ → Bool
each_below test zero = true
each_below test (suc n) = test n && each_below test n

-- some entry of a list passes; each does
abbrev pub some_entry : Numbers → List ℕ → Bool
some_entry test [] = false
some_entry test (x ∷ xs) = test x || some_entry test xs

abbrev pub each_entry : Numbers → List ℕ → Bool
each_entry test [] = true
each_entry test (x ∷ xs) = test x && each_entry test xs

-- a list names its own first entry
names_first : (y : ℕ) (ys : List ℕ) → names y (y ∷ ys) ≡ true
names_first y ys = or_left (eqb y y) (names y ys) (eq-eqb y y refl)

-- what holds of each entry holds of what the list names, and the other way round
pub all_named : (P : ℕ → Type 0) (xs : List ℕ) → AllByRecursion P xs → (x : ℕ) → names x xs ≡ true → P x
all_named P [] a x e = absurd (false≢true e)
all_named P (y ∷ ys) a x e =
    ⊎_elim (λ i. rw (eqb-true x y i) a.0) (λ i. all_named P ys a.1 x i) (or_cases (eqb x y) (names x ys) e)

named_all : (P : ℕ → Type 0) (xs : List ℕ) → ((x : ℕ) → names x xs ≡ true → P x) → AllByRecursion P xs
named_all P [] f = tt
named_all P (y ∷ ys) f = (f y (names_first y ys), named_all P ys (λ x i. f x (or_right (eqb x y) (names x ys) i)))

-- where each single test decides P, so do the tests over many
module _ (test : Numbers) (P : ℕ → Type 0) (tells : (x : ℕ) → Decides (test x) (P x)) where
  pub is_some_below : (n : ℕ) → Decides (some_below test n) ((x : ℕ) × (x < n) × P x)
  is_some_below = Decides-below_or test P (some_below test) tells refl (λ _. refl)

  pub is_each_below : (n : ℕ) → Decides (each_below test n) ((x : ℕ) → x < n → P x)
  is_each_below = Decides-below_and test P (each_below test) tells refl (λ _. refl)

  pub is_all : (xs : List ℕ) → Decides (each_entry test xs) (AllByRecursion P xs)
  is_all = Decides-by_and test P (each_entry test) tells refl (λ _ _. refl)

  pub is_each_entry : (xs : List ℕ) → Decides (each_entry test xs) ((x : ℕ) → names x xs ≡ true → P x)
  is_each_entry xs = Decides-like (each_entry test xs) (all_named P xs) (named_all P xs) (is_all xs)

  pub is_some_entry : (xs : List ℕ) → Decides (some_entry test xs) ((x : ℕ) × (names x xs ≡ true) × P x)
  is_some_entry [] = (λ e. absurd (false≢true e), λ w. absurd (false≢true w.1))
  is_some_entry (y ∷ ys) =
      Decides-like (test y || some_entry test ys)
      (⊎_elim (λ e. (y, names_first y ys, e)) (λ w. (w.0, or_right (eqb w.0 y) (names w.0 ys) w.1, w.2)))
      (λ w. ⊎_elim (λ i. inl (rw (eqb-true w.0 y i) at w.2)) (λ i. inr (w.0, i, w.2)) (or_cases (eqb w.0 y) (names w.0 ys) w.1))
      (Decides-or (test y) (some_entry test ys) (tells y) (is_some_entry ys))

-- some unit of o, up to number n, names x in its list
abbrev some_unit : ℕ → Numbers → (ℕ → List ℕ) → Numbers
some_unit n o lists x = some_below (λ u. o u && names x (lists u)) (suc n)

is_some_unit : (n : ℕ) (o : Numbers) → ((u : ℕ) → Member o u → u ≤ n) → (lists : ℕ → List ℕ) (x : ℕ) →
    Decides (some_unit n o lists x) ((u : ℕ) × Member o u × (names x (lists u) ≡ true))
is_some_unit n o known lists x =
    Decides-like (some_unit n o lists x) (λ w. (w.0, w.2.0, w.2.1)) (λ w. (w.0, omega (arith, known w.0 w.1), (w.1, w.2)))
    (is_some_below (λ u. o u && names x (lists u)) (λ u. Member o u × (names x (lists u) ≡ true))
    (λ u. Decides-and (o u) (names x (lists u)) (itself (o u)) (itself (names x (lists u)))) (suc n))

-- some unit of o makes x; some unit of o takes x
abbrev pub made_in : Problem → Numbers → Numbers
made_in p o = some_unit p.units o p.outputs

abbrev pub taken_in : Problem → Numbers → Numbers
taken_in p o = some_unit p.units o p.inputs

module _ (p : Problem) (o : Numbers) (known : (u : ℕ) → Member o u → u ≤ p.units) where
  pub is_made_in : (x : ℕ) → Decides (made_in p o x) (MadeIn p o x)
  is_made_in = is_some_unit p.units o known p.outputs

  pub is_taken_in : (x : ℕ) → Decides (taken_in p o x) ((u : ℕ) × Member o u × Takes p u x)
  is_taken_in = is_some_unit p.units o known p.inputs

-- standing units are among the book's numbers
pub standing_known : (p : Problem) → Bounded p → (o : Numbers) → Within o p.standing → (u : ℕ) → Member o u → u ≤ p.units
standing_known p bounded o stand u i = (bounded.units_known u (stand u i)).1
