-- The check of a page needs only the bytes that the longest page has, and one more. Assumes nothing.
use Rattle.std.proofs.Common.{◌≡◌, ℕ, ◌+◌, ◌-◌, ◌<◌, ◌≤◌, List, take, drop, Ok, Err, Result, sym, ap, ◌∙◌, subst, arith, length-take}
use Rattle.std.proofs.lemmas.List.{take_all, take-take, drop-take}
use Rattle.book.specs.declared.PageFault.{PageFault}
use Rattle.page.specs.Layout.{most, Line, counts, material, unit, line_length, line_start, line_number, line_bytes, page_length, OnPage, Whole}
use Rattle.page.specs.Rules.{fields}
use Rattle.page.specs.Faults.{AllRight, FirstWrong, LineRight, RightAbove, FaultAt, cut_short, wrong_field, bytes_after, Counts, Refused}
use Rattle.page.specs.Checked.{PageOf, Checked}
use Rattle.page.proofs.Pages.{page_size, page_counts}

-- a part of the bytes that ends within the first m is the same in those
part_of_first : (bytes : List ℕ) (m start size : ℕ) → start + size ≤ m → take size (drop start (take m bytes)) ≡ take size (drop start bytes)
part_of_first bytes m start size h =
    let e : m ≡ start + (m - start) = omega arith in
    ap (λ i. take size (drop start (take i bytes))) e ∙ (ap (take size) (drop-take start (m - start) bytes) ∙ take-take size (m - start) (drop start bytes) (omega arith))

-- the bytes and the first m of them, for a line that ends within the first m
module _ (bytes : List ℕ) (m l : ℕ) (x : Line) (ends : line_start l x + line_length x ≤ m) where
  -- its bytes are the same
  line_of_first : line_bytes (take m bytes) l x ≡ line_bytes bytes l x
  line_of_first = part_of_first bytes m (line_start l x) (line_length x) ends

  -- it is whole in both or in neither
  whole_in_first : Whole bytes l x → Whole (take m bytes) l x
  whole_in_first w = omega (arith, length-take m bytes)

  whole_from_first : Whole (take m bytes) l x → Whole bytes l x
  whole_from_first w = omega (arith, length-take m bytes)

  -- where it is right, it is right in the first m too
  right_in_first : LineRight bytes l x → LineRight (take m bytes) l x
  right_in_first r = record {
    whole = whole_in_first r.whole;
    right = subst (λ t. AllRight (fields l x t) t) (sym line_of_first) r.right;
  }

  -- where it has a first wrong field, it has the same in the first m
  wrong_in_first : (column : ℕ) → FirstWrong (fields l x (line_bytes bytes l x)) (line_bytes bytes l x) column → FirstWrong (fields l x (line_bytes (take m bytes) l x)) (line_bytes (take m bytes) l x) column
  wrong_in_first column w = subst (λ t. FirstWrong (fields l x t) t column) (sym line_of_first) w

-- a line down to line a ends within the longest page, if wherever there is a second line the counts are within bounds
line_ends : (l n a : ℕ) → (1 < a → (l ≤ most) × (n ≤ most)) → (x : Line) → OnPage l n x → line_number l x ≤ a → line_start l x + line_length x ≤ page_length most most
line_ends l n a few counts on h = omega arith
line_ends l n a few (material k) on h = let bound = few (omega (arith, on.0)) in omega (arith, on.0, on.1, bound.0)
line_ends l n a few (unit k) on h = let bound = few (omega (arith, on.0)) in omega (arith, on.0, on.1, bound.0, bound.1)

-- the bytes and the first m of them, more than the longest page has
module _ (bytes : List ℕ) (m : ℕ) (reach : page_length most most < m) where
  -- lines that are right above line a are so in the first m
  above_in_first : (l n a : ℕ) → (1 < a → (l ≤ most) × (n ≤ most)) → RightAbove bytes l n a → RightAbove (take m bytes) l n a
  above_in_first l n a few above x on h = right_in_first bytes m l x (omega (arith, line_ends l n a few x on (omega arith))) (above x on h)

  -- a fault in line a is there in the first m
  fault_in_first : (l n a b : ℕ) → (1 < a → (l ≤ most) × (n ≤ most)) → FaultAt bytes l n a b → FaultAt (take m bytes) l n a b
  fault_in_first l n a b few (cut_short x on e z above cut) =
      let ends : line_start l x + line_length x ≤ m = omega (arith, line_ends l n a few x on (omega arith)) in
      cut_short x on e z (above_in_first l n a few above) (λ w. cut (whole_from_first bytes m l x ends w))
  fault_in_first l n a b few (wrong_field x on e above whole wrong) =
      let ends : line_start l x + line_length x ≤ m = omega (arith, line_ends l n a few x on (omega arith)) in
      wrong_field x on e (above_in_first l n a few above) (whole_in_first bytes m l x ends whole) (wrong_in_first bytes m l x ends b wrong)
  fault_in_first l n a b few (bytes_after e z above more) =
      let bound = few (omega arith) in
      bytes_after e z (above_in_first l n a few above) (omega (arith, length-take m bytes, bound.0, bound.1))

  -- the counts are there
  counts_in_first : (l n : ℕ) → Counts bytes l n → Counts (take m bytes) l n
  counts_in_first l n c = record {
    materials = c.materials;
    units = c.units;
    shown = take-take 11 m bytes (omega arith) ∙ c.shown;
  }

  -- so bytes with a fault have it in the first m
  refused_in_first : (a b : ℕ) → Refused bytes a b → Refused (take m bytes) a b
  refused_in_first a b r = record {
    materials = r.materials;
    units = r.units;
    counted = λ h. counts_in_first r.materials r.units (r.counted h);
    fault = fault_in_first r.materials r.units a b (λ h. ((r.counted h).materials.1, (r.counted h).units.1)) r.fault;
  }

  -- and a page is the first m of itself
  page_in_first : (l n : ℕ) → PageOf bytes l n → PageOf (take m bytes) l n
  page_in_first l n p =
      let size = page_size bytes l n p in
      let c = page_counts bytes l n p in
      let all : take m bytes ≡ bytes = take_all m bytes (omega (arith, c.materials.1, c.units.1)) in
      subst (λ b. PageOf b l n) (sym all) p

-- what is answered of the bytes is answered of the first 48140: the longest page has 48139
pub first_bytes : (bytes : List ℕ) (r : Result (ℕ × ℕ) PageFault) → Checked bytes r → Checked (take 48140 bytes) r
first_bytes bytes (Ok p) c = page_in_first bytes 48140 (omega arith) p.0 p.1 c
first_bytes bytes (Err f) c = refused_in_first bytes 48140 (omega arith) f.line f.column c
