-- Laws of number columns, for those who read and write them. Assumes nothing.
use Rattle.std.proofs.Common.{◌≡◌, ℕ, ◌+◌, ◌-◌, ◌^◌, ◌<◌, ◌≤◌, List, length, get_or, decimal, sym, ap, ◌∙◌, inl, inr, arith, length-append}
use lib.ListN.{length-replicate}
use Rattle.std.proofs.lemmas.List.{get_or-replicate, get_or_append_left, get_or-append_right, append_cancel_left}
use Rattle.std.proofs.lemmas.Bool.{cases_lt, cases_order}
use Rattle.std.proofs.lemmas.Fmt.{decimal_nonempty, length-decimal-le, decimal_injective, first_decimal, decimal_digit}
use Rattle.columns.specs.Columns.{blanks, column, Fits, Shows}

-- what fits is small enough for the laws of decimals
pub small_64 : (n : ℕ) → n < 1000000000 → n < 2 ^ 64
small_64 n h = omega arith

-- a number below ten to the width fits
pub fits_below : (w n : ℕ) → 0 < w → n < 1000000000 → n < 10 ^ w → Fits w n
fits_below w n some small h = record { small = small; narrow = length-decimal-le w n some h (small_64 n small) }

-- a number of at most five digits fits five columns
pub fits_five : (n : ℕ) → n < 100000 → Fits 5 n
fits_five n h = fits_below 5 n (omega arith) (omega arith) (omega arith)

-- a column is as wide as it should be
pub length_column : (w n : ℕ) → Fits w n → length (column w n) ≡ w
unfolding column
length_column w n f = let k = w - length (decimal n) in omega (arith, length-append (blanks k) (decimal n), length-replicate {A = ℕ} k 32, f.narrow)

-- the number that was written can be read from the field
pub shows_column : (w n : ℕ) → Fits w n → Shows (column w n) n
shows_column w n f =
    let e = length_column w n f in
    record { fits = rw e f; written = cc }

-- the first digit of a number is no space
first_digit : (n : ℕ) → n < 1000000000 → 48 ≤ get_or (decimal n) 0 0
first_digit n h = elim (cases_lt 0 n) [
  | inl p ↦ omega (arith, first_decimal n p (small_64 n h))
  | inr z ↦ let one = decimal_digit n (omega arith) in rw one (omega arith)
]

-- what stands in a column left of the digits, and where they begin
column_space : (w n i : ℕ) → i + length (decimal n) < w → get_or (column w n) i 0 ≡ 32
unfolding column
column_space w n i h =
    let k = w - length (decimal n) in
    get_or_append_left (blanks k) (decimal n) 0 i (omega (arith, length-replicate {A = ℕ} k 32)) ∙ get_or-replicate k i 32 0 (omega arith)

column_first : (w n : ℕ) → Fits w n → 48 ≤ get_or (column w n) (w - length (decimal n)) 0
unfolding column
column_first w n f =
    let k = w - length (decimal n) in
    let z : k - k ≡ 0 = omega arith in
    rw (get_or-append_right (blanks k) (decimal n) k k 0 (length-replicate k 32) (omega arith), z) (first_digit n f.small)

-- the shorter of two numbers has a space where the longer begins
not_shorter : (w m n : ℕ) → Fits w n → column w m ≡ column w n → length (decimal m) < length (decimal n) → ⊥
not_shorter w m n g e h =
    let k = w - length (decimal n) in
    omega (arith, column_space w m k (omega (arith, g.narrow)), column_first w n g, ap (λ (ds : List ℕ). get_or ds k 0) e)

-- a column shows one number only
pub same_column : (w m n : ℕ) → Fits w m → Fits w n → column w m ≡ column w n → m ≡ n
unfolding column
same_column w m n f g e =
    elim (cases_order (length (decimal m)) (length (decimal n))) [
      | inl same ↦ decimal_injective m n (small_64 m f.small) (small_64 n g.small) (append_cancel_left (blanks (w - length (decimal n))) (decimal m) (decimal n) (cc))
      | inr d ↦ elim d [
        | inl h ↦ absurd (not_shorter w m n g e h)
        | inr h ↦ absurd (not_shorter w n m f (sym e) h)
      ]
    ]

pub same_shown : (bytes : List ℕ) (m n : ℕ) → Shows bytes m → Shows bytes n → m ≡ n
same_shown bytes m n s t = same_column (length bytes) m n s.fits t.fits (sym s.written ∙ t.written)

-- a field that shows a number is not blank
pub shown_not_blank : (bytes : List ℕ) (n : ℕ) → Shows bytes n → bytes ≡ blanks (length bytes) → ⊥
shown_not_blank bytes n s e =
    let w = length bytes in
    let some = decimal_nonempty n (small_64 n s.fits.small) in
    let k = w - length (decimal n) in
    let space : get_or (blanks w) k 0 ≡ 32 = get_or-replicate w k 32 0 (omega (arith, s.fits.narrow)) in
    omega (arith, column_first w n s.fits, ap (λ (ds : List ℕ). get_or ds k 0) (sym s.written ∙ e))
