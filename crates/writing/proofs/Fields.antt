-- The fields of numbers and of lists. Assumes nothing.
use Rattle.std.proofs.Common.{◌≡◌, ℕ, ◌+◌, ◌-◌, ◌*◌, ◌≤◌, List, [], ◌∷◌, ◌++◌, length, get_or, take, sym, ap, ◌∙◌, inl, inr, arith}
use Rattle.std.proofs.lemmas.List.{append-nil, length-take-le, take_all, take_more, replicate-append-replicate}
use Rattle.std.proofs.lemmas.Bool.{cases_lt}
use Rattle.std.proofs.lemmas.Grind.{common_steps}
use Rattle.columns.specs.Columns.{blanks, column}
use Rattle.page.specs.Format.{number_fields, list_bytes}
use Rattle.page.proofs.Lists.{listed}
use Rattle.writing.specs.Told.{entry_of, field_bytes}
use Rattle.writing.proofs.Answered.{entry_some, entry_none}

-- the fields of a list with one number more at its end
number_fields_push : (xs : List ℕ) (x : ℕ) → number_fields (xs ++ x ∷ []) ≡ number_fields xs ++ column 5 x
number_fields_push [] x = append-nil (column 5 x)
number_fields_push (y ∷ ys) x = grind (arith, common_steps, number_fields_push ys x)

-- a list that fills its fields
listed_full : (c : ℕ) (xs : List ℕ) → length xs ≡ c → listed c xs ≡ number_fields xs
listed_full c xs full = grind (arith, common_steps)

-- a list and a blank field more
listed_blank : (c d : ℕ) (xs : List ℕ) → d ≡ c + 1 → length xs ≤ c → listed d xs ≡ listed c xs ++ blanks 5
listed_blank c d xs next room =
    let sum : 5 * (d - length xs) ≡ 5 * (c - length xs) + 5 = omega arith in
    grind (arith, common_steps, replicate-append-replicate {A = ℕ} (5 * (c - length xs)) 5 32)

-- the first fields, and the one at the next place
pub listed_step : (place : ℕ) (xs : List ℕ) → 1 ≤ place → listed (place - 1) (take (place - 1) xs) ++ field_bytes (entry_of xs place) ≡ listed place (take place xs)
listed_step place xs low = elim (cases_lt (length xs) place) [
  | inl above ↦
      grind (arith, common_steps, take_all, entry_none xs place above, listed_blank (place - 1) place xs)
  | inr high ↦
      let x = get_or xs (place - 1) 0 in
      let next : place - 1 + 1 ≡ place = omega arith in
      let more : take place xs ≡ take (place - 1) xs ++ x ∷ [] = ap (λ k. take k xs) (sym next) ∙ take_more xs (place - 1) 0 (omega arith) in
      grind (arith, common_steps, more, entry_some xs place low high, listed_full, number_fields_push, length-take-le)
]

-- all eight
pub listed_all : (xs : List ℕ) → length xs ≤ 8 → listed 8 (take 8 xs) ≡ list_bytes xs
listed_all xs few = ap (listed 8) (take_all 8 xs few)
