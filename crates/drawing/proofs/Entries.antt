-- The entries of a list: how many and which a unit's list has, and what a list names after one is put before or behind.
use Rattle.std.proofs.Common.{◌≡◌, ℕ, ◌+◌, ◌*◌, ◌<◌, ◌≤◌, true, eqb, ◌⊎◌, List, [], ◌∷◌, ◌++◌, length, get_or, take, drop, sym, refl, ap, ◌∙◌, inl, inr, ⊎_elim, arith}
use Rattle.std.proofs.lemmas.List.{take_more, length-take, get_or_past}
use Rattle.std.proofs.lemmas.Bool.{or_cases, or_left, or_right, eqb-true, eq-eqb, cases_lt, false≢true}
use Rattle.book.specs.Layers.{names}
use Rattle.drawing.specs.declared.lists.SideLists.{SideLists}
use Rattle.drawing.specs.Sides.{list_at}
use Rattle.drawing.proofs.Members.{list_place}

module _ (s : SideLists) where
  pub list_few : (u : ℕ) → length (list_at s u) ≤ 8
  list_few u = omega (arith, length-take (get_or s.counts u 0) (drop (8 * u) s.entries), s.walkable.few u)

  pub list_placed : (u k : ℕ) → get_or (list_at s u) k 0 ≤ 1024
  list_placed u k =
      ⊎_elim
      (λ (h : k < get_or s.counts u 0). omega (arith, list_place s u k h, s.walkable.known (8 * u + k)))
      (λ (h : get_or s.counts u 0 ≤ k). omega (arith, get_or_past (list_at s u) k 0 (omega (arith, length-take (get_or s.counts u 0) (drop (8 * u) s.entries)))))
      (cases_lt k (get_or s.counts u 0))

pub names_first : (y : ℕ) (q : List ℕ) → names y (y ∷ q) ≡ true
names_first y q = or_left (eqb y y) (names y q) (eq-eqb y y refl)

pub names_rest : (x y : ℕ) (q : List ℕ) → names x q ≡ true → names x (y ∷ q) ≡ true
names_rest x y q h = or_right (eqb x y) (names x q) h

pub names_either : (x y : ℕ) (q : List ℕ) → names x (y ∷ q) ≡ true → (x ≡ y) ⊎ (names x q ≡ true)
names_either x y q h = ⊎_elim (λ i. inl (eqb-true x y i)) (λ i. inr i) (or_cases (eqb x y) (names x q) h)

pub names_kept : (x y : ℕ) (q : List ℕ) → names x q ≡ true → names x (q ++ y ∷ []) ≡ true
names_kept x y [] h = absurd (false≢true h)
names_kept x y (z ∷ q) h =
    ⊎_elim (λ i. or_left (eqb x z) (names x (q ++ y ∷ [])) i) (λ i. or_right (eqb x z) (names x (q ++ y ∷ [])) (names_kept x y q i)) (or_cases (eqb x z) (names x q) h)

pub names_last : (y : ℕ) (q : List ℕ) → names y (q ++ y ∷ []) ≡ true
names_last y [] = names_first y []
names_last y (z ∷ q) = names_rest y z (q ++ y ∷ []) (names_last y q)

pub names_pushed : (x y : ℕ) (q : List ℕ) → names x (q ++ y ∷ []) ≡ true → (names x q ≡ true) ⊎ (x ≡ y)
names_pushed x y [] h = ⊎_elim (λ e. inr e) (λ i. absurd (false≢true i)) (names_either x y [] h)
names_pushed x y (z ∷ q) h =
    ⊎_elim
    (λ i. inl (or_left (eqb x z) (names x q) i))
    (λ i. ⊎_elim (λ j. inl (or_right (eqb x z) (names x q) j)) (λ e. inr e) (names_pushed x y q i))
    (or_cases (eqb x z) (names x (q ++ y ∷ [])) h)

-- one entry more of a list
module _ (xs : List ℕ) (i : ℕ) (inside : i < length xs) where
  more : take (i + 1) xs ≡ take i xs ++ get_or xs i 0 ∷ []
  more = take_more xs i 0 inside

  pub taken_kept : (x : ℕ) → names x (take i xs) ≡ true → names x (take (i + 1) xs) ≡ true
  taken_kept x h = ap (names x) more ∙ names_kept x (get_or xs i 0) (take i xs) h

  pub taken_here : names (get_or xs i 0) (take (i + 1) xs) ≡ true
  taken_here = ap (names (get_or xs i 0)) more ∙ names_last (get_or xs i 0) (take i xs)

  pub taken_cases : (x : ℕ) → names x (take (i + 1) xs) ≡ true → (names x (take i xs) ≡ true) ⊎ (x ≡ get_or xs i 0)
  taken_cases x h = names_pushed x (get_or xs i 0) (take i xs) (sym (ap (names x) more) ∙ h)
