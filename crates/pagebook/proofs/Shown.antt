-- The number that a field shows, as a page book reads it. Assumes nothing.
use Rattle.std.proofs.Common.{◌≡◌, ℕ, zero, suc, ◌+◌, ◌-◌, ◌*◌, ◌/◌, ◌%◌, ◌^◌, ◌<◌, ◌≤◌, ◌&&◌, leb, List, [], ◌∷◌, ◌++◌, length, decimal, sym, refl, ap, ◌∙◌, subst, inl, inr, mul_assoc, mul_left_comm, arith}
use native.Mathlib.Nat.{pow-succ'}
use Rattle.std.proofs.lemmas.Bool.{le-leb, and_from, and_parts, cond-true, cond-false, cases_Bool, cond_both, leb-true}
use Rattle.std.specs.Prelude.{bytes_eq}
use Rattle.std.proofs.lemmas.Fmt.{decimal_by_steps}
use Rattle.std.proofs.lemmas.Slice.Eq.{bytes_eq-Decides}
use Rattle.columns.specs.Columns.{blanks, column, Fits, Shows}
use Rattle.columns.proofs.Laws.{small_64, fits_five, shown_not_blank}
use Rattle.pagebook.specs.Reading.{digit, value_after, number_shown}

-- the digit that the byte of a digit stands for
digit_of : (d : ℕ) → d < 10 → digit (48 + d) ≡ d
digit_of d h =
    cond-true (leb 48 (48 + d) && leb (48 + d) 57) (48 + d - 48) 0 (and_from (leb 48 (48 + d)) (leb (48 + d) 57) (le-leb 48 (48 + d) (omega arith)) (le-leb (48 + d) 57 (omega arith)))
    ∙ omega arith

-- no byte stands for more than 9
digit_below : (b : ℕ) → digit b < 10
digit_below b = cond_both (leb 48 b && leb b 57) (b - 48) 0 (λ d. d < 10) (λ e. omega (arith, leb-true b 57 (and_parts (leb 48 b) (leb b 57) e).1)) (λ e. omega arith)

-- the number that two runs of digits write, one after the other
value_append : (n : ℕ) (xs ys : List ℕ) → value_after n (xs ++ ys) ≡ value_after (value_after n xs) ys
value_append n [] ys = refl
value_append n (x ∷ xs) ys = value_append (10 * n + digit x) xs ys

-- spaces write nothing
value_blanks : (k : ℕ) → value_after 0 (blanks k) ≡ 0
value_blanks zero = refl
value_blanks (suc k) = value_blanks k

-- the digits of a number write that number
value_decimal : (n : ℕ) → n < 2 ^ 64 → value_after 0 (decimal n) ≡ n
value_decimal = decimal_by_steps (λ n ds. value_after 0 ds ≡ n) one more where
  one : (n : ℕ) → n < 10 → value_after 0 ((48 + n) ∷ []) ≡ n
  one n h = omega (arith, digit_of n h)

  more : (n : ℕ) (ds : List ℕ) → 10 ≤ n → value_after 0 ds ≡ n / 10 → value_after 0 (ds ++ ((48 + n % 10) ∷ [])) ≡ n
  more n ds h e = value_append 0 ds ((48 + n % 10) ∷ []) ∙ omega (arith, digit_of (n % 10) (omega arith))

-- so does its column
value_column : (w n : ℕ) → n < 1000000000 → value_after 0 (column w n) ≡ n
unfolding column
value_column w n h =
    let k = w - length (decimal n) in
    value_append 0 (blanks k) (decimal n) ∙ (ap (λ v. value_after v (decimal n)) (value_blanks k) ∙ value_decimal n (small_64 n h))

-- digits after those of a number below m write a number below m with as many zeros after it
value_below : (n m : ℕ) (bs : List ℕ) → n < m → value_after n bs < m * 10 ^ length bs
value_below n m [] h = omega arith
value_below n m (b ∷ bs) h =
    let p = 10 ^ length bs in
    let e : m * 10 ^ suc (length bs) ≡ 10 * m * p = ap (λ q. m * q) (pow-succ' 10 (length bs)) ∙ (mul_left_comm m 10 p ∙ sym (mul_assoc 10 m p)) in
    subst (λ q. value_after n (b ∷ bs) < q) (sym e) (value_below (10 * n + digit b) (10 * m) bs (omega (arith, digit_below b)))

-- where a field shows a number, that is the number read there
pub shown_number : (field : List ℕ) (n : ℕ) → length field ≡ 5 → Shows field n → number_shown field ≡ n
unfolding number_shown
shown_number field n wide s =
    let value : value_after 0 field ≡ n = ap (value_after 0) s.written ∙ value_column (length field) n s.fits.small in
    let written : field ≡ column (length field) (value_after 0 field) = s.written ∙ ap (column (length field)) (sym value) in
    let same = (bytes_eq-Decides field (column (length field) (value_after 0 field))).1 written in
    cond-true (bytes_eq field (column (length field) (value_after 0 field))) (value_after 0 field) 0 same ∙ value

-- where it shows none, 0 is
pub none_shown : (field : List ℕ) → length field ≡ 5 → ((n : ℕ) → Shows field n → ⊥) → number_shown field ≡ 0
unfolding number_shown
none_shown field wide none =
    let v = value_after 0 field in
    let same = bytes_eq field (column (length field) v) in
    let few : v < 100000 = subst (λ w. v < 1 * 10 ^ w) wide (value_below 0 1 field (omega arith)) in
    elim (cases_Bool same) [
      | inl t ↦ absurd (none v (record { fits = subst (λ w. Fits w v) (sym wide) (fits_five v few); written = (bytes_eq-Decides field (column (length field) v)).0 t }))
      | inr f ↦ cond-false same v 0 f
    ]

-- so in a blank field 0 is read
pub blank_shown : number_shown (blanks 5) ≡ 0
blank_shown = none_shown (blanks 5) refl (λ n s. shown_not_blank (blanks 5) n s refl)
