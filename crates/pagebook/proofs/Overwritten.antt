-- Bytes of which a part is overwritten: their size, what the part holds after, and that nothing else changes. Assumes nothing.
use Rattle.std.proofs.Common.{◌≡◌, ℕ, ◌+◌, ◌-◌, ◌<◌, ◌≤◌, List, ◌++◌, length, take, drop, set, sym, refl, ap, ◌∙◌, arith}
use borrow.Rule.Slice.PartMut.{put_mid}
use lib.Seq.{take-append-add, drop-append-add}
use Rattle.std.proofs.lemmas.List.{append_assoc, length-append, length-set, length-take-le, length-drop, take-append-drop, take-append-le, drop-append-le, take_at, drop_at, drop-drop, drop-take, set-append_left, set-append_right}
use Rattle.std.proofs.lemmas.Slice.{take-put_mid_below, drop-put_mid}
use Rattle.pagebook.specs.Writes.{over}

-- a write to a part of a slice overwrites that part
pub put_mid_over : (p : ℕ) (line bytes : List ℕ) → put_mid p (length line) bytes line ≡ over p line bytes
put_mid_over p line bytes = ap (λ (rest : List ℕ). take p bytes ++ (line ++ rest)) (drop-drop (length line) p bytes)

-- so where it leaves a line there, the bytes have that line over the part
pub put_over : (p n : ℕ) (bytes part line : List ℕ) → part ≡ line → length line ≡ n → put_mid p n bytes part ≡ over p line bytes
put_over p n bytes part line e h = ap (λ i. put_mid p i bytes part) (sym h) ∙ (ap (put_mid p (length line) bytes) e ∙ put_mid_over p line bytes)

-- a line that lies within the bytes
module _ (p : ℕ) (line bytes : List ℕ) (whole : p + length line ≤ length bytes) where
  -- as many bytes as before
  pub length_over : length (over p line bytes) ≡ length bytes
  length_over = simp length-append (omega (arith, length-take-le p bytes (omega arith), length-drop (p + length line) bytes))

  -- the bytes before the line are as they were
  pub take_over : (n : ℕ) → n ≤ p → take n (over p line bytes) ≡ take n bytes
  take_over n h = sym (ap (take n) (put_mid_over p line bytes)) ∙ take-put_mid_below p (length line) bytes line n h (omega arith)

  -- and so are those after it
  pub drop_over : (n : ℕ) → p + length line ≤ n → drop n (over p line bytes) ≡ drop n bytes
  drop_over n h = sym (ap (drop n) (put_mid_over p line bytes)) ∙ drop-put_mid p (length line) bytes line n h (omega arith) refl

  -- a part that ends before the line is as it was
  pub part_before : (i w : ℕ) → i + w ≤ p → take w (drop i (over p line bytes)) ≡ take w (drop i bytes)
  part_before i w h = sym (drop-take i w (over p line bytes)) ∙ (ap (drop i) (take_over (i + w) h) ∙ drop-take i w bytes)

  -- and so is a part that begins after it
  pub part_after : (i w : ℕ) → p + length line ≤ i → take w (drop i (over p line bytes)) ≡ take w (drop i bytes)
  part_after i w h = ap (take w) (drop_over i h)

  -- the part itself is the line
  pub part_over : (w : ℕ) → length line ≡ w → take w (drop p (over p line bytes)) ≡ line
  part_over w e =
      ap (take w) (drop_at (take p bytes) (line ++ drop (p + length line) bytes) p (length-take-le p bytes (omega arith)))
      ∙ take_at line (drop (p + length line) bytes) w e

-- a line written over a part behind the first bytes leaves those
pub over_behind : (first rest line : List ℕ) (q p : ℕ) → length first + q ≡ p → over p line (first ++ rest) ≡ first ++ over q line rest
over_behind first rest line q p e =
    let front : take p (first ++ rest) ≡ first ++ take q rest = ap (λ i. take i (first ++ rest)) (sym e) ∙ take-append-add first rest q in
    let end : p + length line ≡ length first + (q + length line) = omega arith in
    let back : drop (p + length line) (first ++ rest) ≡ drop (q + length line) rest = ap (λ i. drop i (first ++ rest)) end ∙ drop-append-add first rest (q + length line) in
    ap (λ (t : List ℕ). t ++ (line ++ drop (p + length line) (first ++ rest))) front
    ∙ (ap (λ (t : List ℕ). (first ++ take q rest) ++ (line ++ t)) back
    ∙ append_assoc first (take q rest) (line ++ drop (q + length line) rest))

-- and one written over a part of the first bytes leaves the rest
pub over_before : (first rest line : List ℕ) (p : ℕ) → p + length line ≤ length first → over p line (first ++ rest) ≡ over p line first ++ rest
over_before first rest line p whole =
    let front = take-append-le p first rest (omega arith) in
    let back = drop-append-le (p + length line) first rest whole in
    ap (λ (t : List ℕ). t ++ (line ++ drop (p + length line) (first ++ rest))) front
    ∙ (ap (λ (t : List ℕ). take p first ++ (line ++ t)) back
    ∙ sym (append_assoc (take p first) (line ++ drop (p + length line) first) rest
    ∙ ap (λ (t : List ℕ). take p first ++ t) (append_assoc line (drop (p + length line) first) rest)))

-- a byte written at a place overwrites the part of w bytes that begins there by the same part with that byte in front
pub set_over : (bytes : List ℕ) (p w b : ℕ) → 0 < w → p + w ≤ length bytes → set bytes p b ≡ over p (set (take w (drop p bytes)) 0 b) bytes
set_over bytes p w b some whole =
    let part = take w (drop p bytes) in
    let long : length part ≡ w = length-take-le w (drop p bytes) (omega (arith, length-drop p bytes)) in
    let same : w ≡ length (set part 0 b) = sym (length-set part 0 b ∙ long) in
    let here : p - p ≡ 0 = omega arith in
    let inside : set (drop p bytes) 0 b ≡ set part 0 b ++ drop (p + length (set part 0 b)) bytes =
    ap (λ (t : List ℕ). set t 0 b) (sym (take-append-drop w (drop p bytes)))
    ∙ (set-append_left part (drop w (drop p bytes)) 0 b (omega arith)
    ∙ ap (λ (t : List ℕ). set part 0 b ++ t) (drop-drop w p bytes ∙ ap (λ i. drop (p + i) bytes) same)) in
    ap (λ (t : List ℕ). set t p b) (sym (take-append-drop p bytes))
    ∙ (set-append_right (take p bytes) (drop p bytes) p p b (length-take-le p bytes (omega arith)) (omega arith)
    ∙ (ap (λ i. take p bytes ++ set (drop p bytes) i b) here ∙ ap (λ (t : List ℕ). take p bytes ++ t) inside))
