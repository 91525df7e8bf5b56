-- A field with one byte more at its right: what it holds, from what it held before. Assumes nothing.
use Rattle.std.proofs.Common.{◌≡◌, ℕ, ◌+◌, ◌-◌, ◌*◌, ◌/◌, ◌%◌, ◌<◌, ◌≤◌, ◌⊎◌, List, [], ◌∷◌, ◌++◌, length, decimal, sym, ap, ◌∙◌, inl, inr, arith, length-append}
use lib.ListN.{length-replicate}
use Rattle.std.proofs.lemmas.List.{append_assoc, replicate_more, same_from_push}
use Rattle.std.proofs.lemmas.Bool.{cases_lt}
use Rattle.std.proofs.lemmas.Fmt.{decimal_digit, decimal_step}
use Rattle.columns.specs.declared.Content.{Content}
use Rattle.columns.specs.declared.Content.TheVariants.{Blank, Number, Fault}
use Rattle.columns.specs.Columns.{blanks, column, Shows, Holds}
use Rattle.columns.specs.Reading.{Digit, GoesOn, Next}
use Rattle.columns.proofs.Laws.{small_64, same_shown, shown_not_blank}

-- as many spaces as there are bytes
blank_from : (bytes : List ℕ) (k : ℕ) → bytes ≡ blanks k → bytes ≡ blanks (length bytes)
blank_from bytes k e = e ∙ ap blanks (sym (ap length e ∙ length-replicate {A = ℕ} k 32))

-- spaces and then the digits of a number show that number
pub shows_from : (bytes : List ℕ) (k n : ℕ) → n < 1000000000 → bytes ≡ blanks k ++ decimal n → Shows bytes n
unfolding column
shows_from bytes k n h e =
    let len : length bytes ≡ k + length (decimal n) = omega (arith, ap length e, length-append (blanks k) (decimal n), length-replicate {A = ℕ} k 32) in
    let room : k ≡ length bytes - length (decimal n) = omega arith in
    record { fits = record { small = h; narrow = omega arith }; written = cc }

-- a blank field with a space more is blank
pub blank_more : (bytes : List ℕ) (b : ℕ) → bytes ≡ blanks (length bytes) → b ≡ 32 → bytes ++ (b ∷ []) ≡ blanks (length (bytes ++ (b ∷ [])))
blank_more bytes b e space = blank_from (bytes ++ (b ∷ [])) (length bytes + 1) (cc (replicate_more {X = ℕ} (length bytes) 32))

-- a blank field with a digit more shows that digit
pub shows_first : (bytes : List ℕ) (b d : ℕ) → bytes ≡ blanks (length bytes) → b ≡ 48 + d → d < 10 → Shows (bytes ++ (b ∷ [])) d
shows_first bytes b d e digit h = shows_from (bytes ++ (b ∷ [])) (length bytes) d (omega arith) (cc (decimal_digit d h))

-- a number's digits, and one more
pub decimal_more : (n d : ℕ) → 0 < n → n < 100000000 → d < 10 → decimal (10 * n + d) ≡ decimal n ++ ((48 + d) ∷ [])
decimal_more n d some small h =
    let m = 10 * n + d in
    let front : m / 10 ≡ n = omega arith in
    let last : m % 10 ≡ d = omega arith in
    cc (decimal_step m (omega arith) (small_64 m (omega arith)))

-- a field that shows n, with the digit d more, shows ten times n, and d
pub shows_more : (bytes : List ℕ) (b n d : ℕ) → Shows bytes n → 0 < n → n < 100000000 → b ≡ 48 + d → d < 10 → Shows (bytes ++ (b ∷ [])) (10 * n + d)
unfolding column
shows_more bytes b n d s some small digit h =
    let k = length bytes - length (decimal n) in
    let shown : bytes ≡ blanks k ++ decimal n = s.written in
    let more = decimal_more n d some small h in
    let regroup = append_assoc (blanks k) (decimal n) (b ∷ []) in
    shows_from (bytes ++ (b ∷ [])) k (10 * n + d) (omega arith) (cc)

-- the front of a blank field is blank, and its last byte a space
pub blank_front : (bytes : List ℕ) (b : ℕ) → bytes ++ (b ∷ []) ≡ blanks (length (bytes ++ (b ∷ []))) → (bytes ≡ blanks (length bytes)) × (b ≡ 32)
blank_front bytes b e = same_from_push bytes (blanks (length bytes)) b 32 (cc (length-append bytes (b ∷ []), replicate_more {X = ℕ} (length bytes) 32))

-- the front of a field that shows a number: blank before a lone digit, else it shows the number without its last digit
pub shown_front : (bytes : List ℕ) (b n : ℕ) → Shows (bytes ++ (b ∷ [])) n →
    ((b ≡ 48 + n) × (n < 10) × (bytes ≡ blanks (length bytes))) ⊎ ((b ≡ 48 + n % 10) × (10 ≤ n) × Shows bytes (n / 10))
unfolding column
shown_front bytes b n s =
    let k = length (bytes ++ (b ∷ [])) - length (decimal n) in
    let shown : bytes ++ (b ∷ []) ≡ blanks k ++ decimal n = s.written in
    let small = s.fits.small in
    elim (cases_lt n 10) [
      | inl h ↦
          let one = decimal_digit n h in
          let parts = same_from_push bytes (blanks k) b (48 + n) (cc) in
          inl (parts.1, h, blank_from bytes k parts.0)
      | inr h ↦
          let more = decimal_step n h (small_64 n small) in
          let regroup = append_assoc (blanks k) (decimal (n / 10)) ((48 + n % 10) ∷ []) in
          let parts = same_from_push bytes (blanks k ++ decimal (n / 10)) b (48 + n % 10) (cc) in
          inr (parts.1, h, shows_from bytes k (n / 10) (omega arith) parts.0)
    ]

-- after spaces, what is neither a space nor a digit is a fault
fault_first : (bytes : List ℕ) (b : ℕ) → bytes ≡ blanks (length bytes) → (b ≡ 32 → ⊥) → (Digit b → ⊥) → Holds (bytes ++ (b ∷ [])) Fault
fault_first bytes b e no-space no_digit = (
  λ blank. no-space (blank_front bytes b blank).1,
  λ n s. elim (shown_front bytes b n s) [
    | inl p ↦ let d = p.0 in let h = p.1 in no_digit (omega arith, omega arith)
    | inr p ↦ shown_not_blank bytes (n / 10) p.2 e
  ],
)

-- after a number, what is no digit, or no digit may follow the number, is a fault
fault_after : (bytes : List ℕ) (b m : ℕ) → Shows bytes m → (Digit b → GoesOn m → ⊥) → Holds (bytes ++ (b ∷ [])) Fault
fault_after bytes b m shown no_digit = (
  λ blank. shown_not_blank bytes m shown (blank_front bytes b blank).0,
  λ n s. elim (shown_front bytes b n s) [
    | inl p ↦ shown_not_blank bytes m shown p.2
    | inr p ↦
        let same : m ≡ n / 10 = same_shown bytes m (n / 10) shown p.2 in
        let d = p.0 in
        let h = p.1 in
        let small = s.fits.small in
        no_digit (omega arith, omega arith) (omega arith, omega arith)
  ],
)

-- a fault stays one
fault_more : (bytes : List ℕ) (b : ℕ) → Holds bytes Fault → Holds (bytes ++ (b ∷ [])) Fault
fault_more bytes b fault = (
  λ blank. fault.0 (blank_front bytes b blank).0,
  λ n s. elim (shown_front bytes b n s) [
    | inl p ↦ fault.0 p.2
    | inr p ↦ fault.1 (n / 10) p.2
  ],
)

-- what the bytes hold, and what one more makes of it
pub holds_next : (bytes : List ℕ) (b : ℕ) (so_far after : Content) → Holds bytes so_far → Next so_far b after → Holds (bytes ++ (b ∷ [])) after
holds_next bytes b Blank Blank h e = blank_more bytes b h e
holds_next bytes b Blank (Number m) h e = shows_first bytes b m h (omega arith) (omega arith)
holds_next bytes b Blank Fault h e = fault_first bytes b h e.0 e.1
holds_next bytes b (Number n) Blank h e = absurd e
holds_next bytes b (Number n) (Number m) h e =
    let d : m ≡ 10 * n + (b - 48) = omega arith in
    rw d (shows_more bytes b n (b - 48) h (omega arith) (omega arith) (omega arith) (omega arith))
holds_next bytes b (Number n) Fault h e = fault_after bytes b n h e
holds_next bytes b Fault after h e = rw e (fault_more bytes b h)

-- the answer for a field that shows a number is that number
pub read_back : (bytes : List ℕ) (r : Content) → Holds bytes r → (n : ℕ) → Shows bytes n → r ≡ Number n
read_back bytes Blank blank n s = absurd (shown_not_blank bytes n s blank)
read_back bytes (Number m) shown n s = ap Number (same_shown bytes m n shown s)
read_back bytes Fault fault n s = absurd (fault.1 n s)
