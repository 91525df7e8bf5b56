-- A column that is written from its last byte to its first. Assumes nothing.
use Rattle.std.proofs.Common.{◌≡◌, ℕ, ◌+◌, ◌-◌, ◌/◌, ◌%◌, ◌<◌, ◌≤◌, cond, eqb, List, [], ◌∷◌, ◌++◌, length, drop, set, decimal, ap, inl, inr, arith, length-append}
use Rattle.std.proofs.lemmas.List.{append_assoc, append-nil, drop-set, drop_all, length_push, length-set, nil_from_length, replicate_more}
use Rattle.std.proofs.lemmas.Bool.{cases_lt, eq-eqb, ne_eqb, cond-true, cond-false}
use Rattle.std.proofs.lemmas.Fmt.{decimal_digit, decimal_step, decimal_nonempty}
use Rattle.columns.specs.Columns.{blanks, column, Fits}
use Rattle.columns.proofs.Laws.{small_64, length_column}

-- the w columns at the left, where m is what is left of the number: its column, or spaces once nothing is left
abbrev pub lead : ℕ → ℕ → List ℕ
lead w m = cond (eqb m 0) (blanks w) (column w m)

lead_none : (w m : ℕ) → m ≡ 0 → lead w m ≡ blanks w
lead_none w m e = cond-true (eqb m 0) (blanks w) (column w m) (eq-eqb m 0 e)

lead_some : (w m : ℕ) → 0 < m → lead w m ≡ column w m
lead_some w m h = cond-false (eqb m 0) (blanks w) (column w m) (ne_eqb m 0 (omega arith))

-- the last byte of a column is the number's last digit
pub column_last : (w n : ℕ) → 0 < w → n < 1000000000 → column w n ≡ lead (w - 1) (n / 10) ++ ((48 + n % 10) ∷ [])
unfolding column
column_last w n some small = elim (cases_lt n 10) [
  | inl h ↦
      let one = decimal_digit n h in
      let room : w - length (decimal n) ≡ w - 1 = omega (arith, ap length one) in
      let last : n ≡ n % 10 = omega arith in
      let spaces = lead_none (w - 1) (n / 10) (omega arith) in
      cc
  | inr h ↦
      let more = decimal_step n h (small_64 n small) in
      let k = w - 1 - length (decimal (n / 10)) in
      let room : w - length (decimal n) ≡ k = omega (arith, ap length more, length_push (decimal (n / 10)) (48 + n % 10)) in
      let regroup = append_assoc (blanks k) (decimal (n / 10)) ((48 + n % 10) ∷ []) in
      let front = lead_some (w - 1) (n / 10) (omega arith) in
      cc
]

-- the last byte at the left: a space once nothing is left, else a digit
pub lead_last : (w m b : ℕ) → 0 < w → m < 1000000000 → (m ≡ 0 → b ≡ 32) → (0 < m → b ≡ 48 + m % 10) → lead w m ≡ lead (w - 1) (m / 10) ++ (b ∷ [])
lead_last w m b some small space digit = elim (cases_lt 0 m) [
  | inl h ↦ cc (lead_some w m h, column_last w m some small, digit h)
  | inr h ↦
      let none : m ≡ 0 = omega arith in
      let back : w - 1 + 1 ≡ w = omega arith in
      cc (lead_none w m none, lead_none (w - 1) (m / 10) (omega arith), replicate_more {X = ℕ} (w - 1) 32, space none)
]

-- a byte written left of place i takes the last of what is to come before it
wrote_left : (front less field : List ℕ) (i b : ℕ) → 0 < i → i ≤ length field → front ≡ less ++ (b ∷ []) → less ++ drop (i - 1) (set field (i - 1) b) ≡ front ++ drop i field
wrote_left front less field i b some h e =
    let back : i - 1 + 1 ≡ i = omega arith in
    cc (drop-set field (i - 1) b (omega arith), append_assoc less (b ∷ []) (drop i field))

-- from place i on the field is written: with m in the columns left of it, it would show n
abbrev pub Filled : (field : List ℕ) (i m n : ℕ) → Type 0
Filled field i m n = lead i m ++ drop i field ≡ column (length field) n

-- a field that a number fits has a last byte
pub some_column : (w n : ℕ) → Fits w n → 0 < w
some_column w n f = omega (arith, decimal_nonempty n (small_64 n f.small), f.narrow)

-- the last digit written
pub filled_first : (field : List ℕ) (n b : ℕ) → Fits (length field) n → b ≡ 48 + n % 10 → Filled (set field (length field - 1) b) (length field - 1) (n / 10) n
filled_first field n b f digit =
    let w = length field in
    let some = some_column w n f in
    let front : column w n ≡ lead (w - 1) (n / 10) ++ (b ∷ []) = cc (column_last w n some f.small) in
    cc (
      wrote_left (column w n) (lead (w - 1) (n / 10)) field w b some (omega arith) front,
      drop_all w field (omega arith),
      append-nil (column w n),
      length-set field (w - 1) b,
    )

-- the byte left of it written
pub filled_more : (field : List ℕ) (i m n b : ℕ) → 0 < i → i ≤ length field → Filled field i m n → lead i m ≡ lead (i - 1) (m / 10) ++ (b ∷ []) → Filled (set field (i - 1) b) (i - 1) (m / 10) n
filled_more field i m n b some h so_far e =
    cc (wrote_left (lead i m) (lead (i - 1) (m / 10)) field i b some h e, length-set field (i - 1) b)

-- the whole field written: nothing stands left of it
pub filled_all : (field : List ℕ) (w i m n : ℕ) → Fits w n → length field ≡ w → i ≡ 0 → Filled field i m n → field ≡ column w n
filled_all field w i m n f l z done =
    let e : lead 0 m ++ field ≡ column w n = cc in
    let none = nil_from_length (lead 0 m) (omega (arith, length-append (lead 0 m) field, ap length e, length_column w n f)) in
    cc
