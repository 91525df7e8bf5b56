-- The lists of a sheet: a few first entries, and the others as on a new sheet.
use Rattle.std.proofs.Common.{◌≡◌, ℕ, ◌-◌, ◌≤◌, cond, List, map, length, get_or, replicate, count_by, sym, refl, ◌∙◌, ⊎_elim, arith}
use Rattle.std.specs.List.{range_with_len}
use Rattle.std.proofs.lemmas.List.{length-append, length-replicate, get_or-replicate, get_or_past, get_or_append_left, get_or-append_right}
use Rattle.std.proofs.lemmas.List.FromFn.{get_or-map-range_with_len, length-map-range_with_len}
use Rattle.std.proofs.lemmas.List.Folds.{sum_by-replicate}
use Rattle.std.proofs.lemmas.List.Sums.{sum_by-append}
use Rattle.book.specs.Declined.{inside}
use Rattle.structure.specs.declared.Mark.{Mark}
use Rattle.structure.specs.declared.Mark.TheVariants.{Unasked}
use Rattle.structure.specs.Answers.{is_drawn}
use Rattle.structure.specs.Farms.{first_of}
use Rattle.structure.proofs.Searches.{decided, is_inside}
use Rattle.structure.proofs.Entries.{entry, entry_at, entry_none}

-- the values of f for 1 to n
abbrev pub listed : {X : Type 0} → (ℕ → X) → ℕ → List X
listed f n = map f (range_with_len 1 n)

-- a sheet's list has all its places
length_first_of : {X : Type 0} (fresh : X) (xs : List X) → length xs ≤ 1024 → length (first_of fresh xs) ≡ 1024
length_first_of fresh xs few = let k = 1024 - length xs in omega (arith, length-append xs (replicate k fresh), length-replicate k fresh)

-- past the first ones all are new
past_first_of : {X : Type 0} (fresh : X) (xs : List X) (i : ℕ) → length xs ≤ i → get_or (first_of fresh xs) i fresh ≡ fresh
past_first_of fresh xs i past =
    let count = 1024 - length xs in
    let k = i - length xs in
    get_or-append_right xs (replicate count fresh) (length xs) i fresh refl past
    ∙ grind (arith, get_or-replicate count k fresh fresh, get_or_past (replicate count fresh) k fresh, length-replicate count fresh)

-- a sheet's list that begins with the values of f for 1 to n
module _ {X : Type 0} (fresh : X) (f : ℕ → X) (n : ℕ) (few : n ≤ 1024) where
  abbrev places : List X
  places = first_of fresh (listed f n)

  length_listed : length (listed f n) ≡ n
  length_listed = length-map-range_with_len f 1 n

  pub length_places : length (first_of fresh (listed f n)) ≡ 1024
  length_places = length_first_of fresh (listed f n) (omega (arith, length_listed))

  -- from 1 to n it has these values, and elsewhere it is as on a new sheet
  entry_inside : (k : ℕ) → 1 ≤ k → k ≤ n → entry fresh places k ≡ f k
  entry_inside k low high =
      entry_at fresh places k low (omega (arith, length_places))
      ∙ (get_or_append_left (listed f n) _ fresh (k - 1) (omega (arith, length_listed)) ∙ get_or-map-range_with_len f 1 n (k - 1) k fresh (omega arith) (omega arith))

  entry_outside : (k : ℕ) → ((1 ≤ k) × (k ≤ n) → ⊥) → entry fresh places k ≡ fresh
  entry_outside k out =
      ⊎_elim
      (λ within. entry_at fresh places k within.0 within.1 ∙ past_first_of fresh (listed f n) (k - 1)
      (grind (arith, length_listed, within.0, out)))
      (entry_none fresh places k)
      (decided (inside k (length places)) (is_inside k (length places)))

  -- where f is as on a new sheet outside 1 to n, the list has the value of f for every number
  pub entry_listed : ((k : ℕ) → ((1 ≤ k) × (k ≤ n) → ⊥) → f k ≡ fresh) → (k : ℕ) → entry fresh (first_of fresh (listed f n)) k ≡ f k
  entry_listed outside k = ⊎_elim (λ within. entry_inside k within.0 within.1) (λ out. entry_outside k out ∙ sym (outside k out)) (decided (inside k n) (is_inside k n))

-- what is drawn stands among the first marks, for a new sheet has nothing drawn
pub drawn_first_of : (marks : List Mark) → count_by is_drawn marks ≡ count_by is_drawn (first_of Unasked marks)
drawn_first_of marks =
    let one : Mark → ℕ = λ x. cond (is_drawn x) 1 0 in
    let k = 1024 - length marks in
    omega (arith, sum_by-append one marks (replicate k Unasked), sum_by-replicate one k Unasked)
