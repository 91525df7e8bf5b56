-- Lines that are numbered one after another, and the bytes where they stand. Assumes nothing.
use Rattle.std.proofs.Common.{◌≡◌, ℕ, zero, suc, ◌+◌, ◌<◌, ◌≤◌, List, [], ◌∷◌, ◌++◌, length, take, drop, sym, refl, ap, ◌∙◌, subst, inl, inr, add-zero, arith, length-append}
use Rattle.std.specs.List.{AllByRecursion}
use Rattle.std.proofs.lemmas.List.{append_assoc, take-append-drop, take_at, drop_at, drop-drop}
use Rattle.std.proofs.lemmas.Bool.{cases_eq}
use Rattle.page.specs.Layout.{material, unit, line_start}
use Rattle.page.specs.Format.{numbered}

-- P holds of k and the first element, of k + 1 and the second, and so on
abbrev pub Numbers : {X : Type 0} → (ℕ → X → Type 0) → ℕ → List X → Type 0
Numbers P k [] = Unit {0}
Numbers P k (x ∷ xs) = P k x × Numbers P (k + 1) xs

-- what there is for each of n numbers from k on, gathered in a list
pub gathered : {X : Type 0} (P : ℕ → X → Type 0) (k n : ℕ) → ((i : ℕ) → k ≤ i → i < k + n → (x : X) × P i x) → (xs : List X) × (length xs ≡ n) × Numbers P k xs
gathered P k zero each = ([], refl, tt)
gathered P k (suc n) each =
    let first = each k (omega arith) (omega arith) in
    let rest = gathered P (k + 1) n (λ i low high. each i (omega arith) (omega arith)) in
    (first.0 ∷ rest.0, ap suc rest.1, (first.1, rest.2))

-- and what a list so gathered has for each number
pub number_at : {X : Type 0} (P : ℕ → X → Type 0) (k : ℕ) (xs : List X) → Numbers P k xs → (i : ℕ) → k ≤ i → i < k + length xs → (x : X) × P i x
number_at P k [] ps i low high = absurd (omega arith)
number_at P k (x ∷ xs) ps i low high = elim (cases_eq k i) [
  | inl e ↦ (x, subst (λ j. P j x) e ps.0)
  | inr n ↦ number_at P (k + 1) xs ps.1 i (omega (arith, n)) (omega arith)
]

-- two facts of each, at once
pub numbers_both : {X : Type 0} (P Q : ℕ → X → Type 0) (k : ℕ) (xs : List X) → Numbers P k xs → Numbers Q k xs → Numbers (λ i x. P i x × Q i x) k xs
numbers_both P Q k [] ps qs = tt
numbers_both P Q k (x ∷ xs) ps qs = ((ps.0, qs.0), numbers_both P Q (k + 1) xs ps.1 qs.1)

-- a fact of each that follows from another
pub numbers_weaker : {X : Type 0} (P Q : ℕ → X → Type 0) → ((i : ℕ) (x : X) → P i x → Q i x) → (k : ℕ) (xs : List X) → Numbers P k xs → Numbers Q k xs
numbers_weaker P Q follows k [] ps = tt
numbers_weaker P Q follows k (x ∷ xs) ps = (follows k x ps.0, numbers_weaker P Q follows (k + 1) xs ps.1)

-- a fact of each that has nothing to do with its number, both ways
pub numbers_from_all : {X : Type 0} (P : X → Type 0) (k : ℕ) (xs : List X) → AllByRecursion P xs → Numbers (λ i x. P x) k xs
numbers_from_all P k [] ps = tt
numbers_from_all P k (x ∷ xs) ps = (ps.0, numbers_from_all P (k + 1) xs ps.1)

pub all_from_numbers : {X : Type 0} (P : X → Type 0) (k : ℕ) (xs : List X) → Numbers (λ i x. P x) k xs → AllByRecursion P xs
all_from_numbers P k [] ps = tt
all_from_numbers P k (x ∷ xs) ps = (ps.0, all_from_numbers P (k + 1) xs ps.1)

-- no number is above the last
pub numbers_up_to : {X : Type 0} (last k : ℕ) (xs : List X) → k + length xs ≤ last + 1 → Numbers (λ i x. i ≤ last) k xs
numbers_up_to last k [] h = tt
numbers_up_to last k (x ∷ xs) h = (omega arith, numbers_up_to last (k + 1) xs (omega arith))

-- lines of w bytes, the line of number i beginning at byte `start i`
module _ {X : Type 0} (line : ℕ → X → List ℕ) (w : ℕ) (start : ℕ → ℕ) (next : (k : ℕ) → 1 ≤ k → start (k + 1) ≡ start k + w) where
  -- where each line stands at its place, they stand there one after another
  pub numbered_from_places : (bytes : List ℕ) (k : ℕ) (xs : List X) → 1 ≤ k → Numbers (λ i x. take w (drop (start i) bytes) ≡ line i x) k xs → drop (start k) bytes ≡ numbered line k xs ++ drop (start (k + length xs)) bytes
  numbered_from_places bytes k [] h ps = ap (λ i. drop (start i) bytes) (sym (add-zero k))
  numbered_from_places bytes k (x ∷ xs) h ps =
      let here = ps.0 in
      let rest = numbered_from_places bytes (k + 1) xs (omega arith) ps.1 in
      let end : k + 1 + length xs ≡ k + length (x ∷ xs) = omega arith in
      let after : drop w (drop (start k) bytes) ≡ drop (start (k + 1)) bytes = drop-drop w (start k) bytes ∙ ap (λ i. drop i bytes) (sym (next k h)) in
      sym (take-append-drop w (drop (start k) bytes))
      ∙ (ap (λ t. t ++ drop w (drop (start k) bytes)) here
      ∙ (ap (λ t. line k x ++ t) (after ∙ (rest ∙ ap (λ i. numbered line (k + 1) xs ++ drop (start i) bytes) end))
      ∙ sym (append_assoc (line k x) (numbered line (k + 1) xs) (drop (start (k + length (x ∷ xs))) bytes))))

  -- and the other way round, where each has w bytes
  pub places_from_numbered : (bytes rest : List ℕ) (k : ℕ) (xs : List X) → 1 ≤ k → Numbers (λ i x. length (line i x) ≡ w) k xs → drop (start k) bytes ≡ numbered line k xs ++ rest → Numbers (λ i x. take w (drop (start i) bytes) ≡ line i x) k xs × (drop (start (k + length xs)) bytes ≡ rest)
  places_from_numbered bytes rest k [] h ws e = (tt, ap (λ i. drop (start i) bytes) (add-zero k) ∙ e)
  places_from_numbered bytes rest k (x ∷ xs) h ws e =
      let wide = ws.0 in
      let all : drop (start k) bytes ≡ line k x ++ (numbered line (k + 1) xs ++ rest) = e ∙ append_assoc (line k x) (numbered line (k + 1) xs) rest in
      let here : take w (drop (start k) bytes) ≡ line k x = ap (take w) all ∙ take_at (line k x) (numbered line (k + 1) xs ++ rest) w wide in
      let after : drop (start (k + 1)) bytes ≡ numbered line (k + 1) xs ++ rest =
      ap (λ i. drop i bytes) (next k h) ∙ (sym (drop-drop w (start k) bytes) ∙ (ap (drop w) all ∙ drop_at (line k x) (numbered line (k + 1) xs ++ rest) w wide)) in
      let further = places_from_numbered bytes rest (k + 1) xs (omega arith) ws.1 after in
      let end : k + length (x ∷ xs) ≡ k + 1 + length xs = omega arith in
      ((here, further.0), ap (λ i. drop (start i) bytes) end ∙ further.1)

  -- they end where the next line would begin
  pub numbered_end : (k : ℕ) (xs : List X) → 1 ≤ k → Numbers (λ i x. length (line i x) ≡ w) k xs → start k + length (numbered line k xs) ≡ start (k + length xs)
  numbered_end k [] h ws = add-zero (start k) ∙ ap start (sym (add-zero k))
  numbered_end k (x ∷ xs) h ws =
      let wide = ws.0 in
      let step = next k h in
      let rest = numbered_end (k + 1) xs (omega arith) ws.1 in
      let end : start (k + 1 + length xs) ≡ start (k + length (x ∷ xs)) = ap start (omega arith) in
      let sum = length-append (line k x) (numbered line (k + 1) xs) in
      omega arith

-- the lines of materials, and those of units, begin one line's length after another
pub material_next : (l k : ℕ) → 1 ≤ k → line_start l (material (k + 1)) ≡ line_start l (material k) + 7
material_next l k h = omega arith

pub unit_next : (l k : ℕ) → 1 ≤ k → line_start l (unit (k + 1)) ≡ line_start l (unit k) + 87
unit_next l k h = omega arith
