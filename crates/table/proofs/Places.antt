-- Numbers from 1 to a count, and the place of a number's row among so many rows.
use Rattle.std.proofs.Common.{◌≡◌, ℕ, ◌-◌, ◌<◌, ◌≤◌, min, true, false, cond, List, length, slice_get, slice_index, Some, None, Option, inl, inr, sym, ◌∙◌, arith}
use Rattle.std.proofs.lemmas.Bool.{cases_lt, cond-true, cond-false}
use Rattle.std.proofs.lemmas.Bool.Decides.{nat_tests}
use Rattle.std.proofs.lemmas.Grind.{common_steps}
use Rattle.std.proofs.lemmas.Option.{cond_some, slice_get-get_or, slice_get_past}
use Rattle.book.specs.Declined.{inside}
use Rattle.book.specs.Asked.{where_inside}

-- the test of such a number, against its bounds
pub inside_bounds : (k count : ℕ) → inside k count ≡ true → (1 ≤ k) × (k ≤ count)
inside_bounds k count h = grind (arith, nat_tests)

inside_yes : (k count : ℕ) → 1 ≤ k → k ≤ count → inside k count ≡ true
inside_yes k count low high = grind (arith, nat_tests)

inside_no : (k count : ℕ) → count < k → inside k count ≡ false
inside_no k count high = grind (arith, nat_tests)

-- where the row of number k is, of n rows
abbrev pub place_of : ℕ → ℕ → Option ℕ
place_of k n = cond (inside k (min 512 n)) (Some (k - 1)) None

-- what an answered place tells
pub record Placed (k n i : ℕ) : Type 0 where
  pub used : inside k (min 512 n) ≡ true
  pub is : i ≡ k - 1
  pub few : i < 512
  pub here : i < n

pub placed : (k n i : ℕ) → Some i ≡ place_of k n → Placed k n i
placed k n i e =
    let w = cond_some (inside k (min 512 n)) (k - 1) i (sym e) in
    let b = inside_bounds k (min 512 n) w.0 in
    let is : i ≡ k - 1 = sym w.1 in
    record { used = w.0; is = is; few = omega arith; here = omega arith }

-- an absent one
pub not_placed : (k n : ℕ) → None ≡ place_of k n → inside k (min 512 n) ≡ false
not_placed k n e = grind (arith, common_steps)

-- the number at place p of a list, from 1
pub numbered : (xs : List ℕ) (p i : ℕ) → 1 ≤ p → i ≡ p - 1 → slice_get xs i ≡ where_inside p (length xs) (slice_index xs (p - 1))
numbered xs p i low is = rw is (elim (cases_lt (p - 1) (length xs)) [
  | inl here ↦ slice_get-get_or xs (p - 1) 0 here ∙ sym (cond-true _ _ _ (inside_yes p (length xs) low (omega arith)))
  | inr past ↦ slice_get_past xs (p - 1) past ∙ sym (cond-false _ _ _ (inside_no p (length xs) (omega arith)))
])
