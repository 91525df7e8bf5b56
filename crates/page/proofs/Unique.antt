-- Bytes say at most one pair of counts, and have at most one first fault. Assumes nothing.
use Rattle.std.proofs.Common.{◌≡◌, ℕ, ◌+◌, ◌<◌, ◌≤◌, List, [], ◌∷◌, ◌++◌, take, drop, sym, refl, ap, ◌∙◌, subst, inl, inr, arith}
use Rattle.std.proofs.lemmas.List.{take_at, drop_at}
use Rattle.std.proofs.lemmas.Bool.{cases_lt, cases_order}
use Rattle.columns.specs.Columns.{column}
use Rattle.columns.proofs.Laws.{fits_five, length_column, same_column}
use Rattle.page.specs.Layout.{Line, counts, material, unit, line_number, line_bytes, OnPage, Whole}
use Rattle.page.specs.Format.{newline}
use Rattle.page.specs.Rules.{Field, fields}
use Rattle.page.specs.Faults.{columns_before, FirstWrong, RightAbove, FaultAt, cut_short, wrong_field, bytes_after, Counts, Refused}
use Rattle.page.proofs.Scan.{right_or_wrong}

-- where two columns with more behind them are the same bytes, the numbers are the same, and so is what is behind
same_front : (a b : ℕ) (s t : List ℕ) → a < 100000 → b < 100000 → column 5 a ++ s ≡ column 5 b ++ t → (a ≡ b) × (s ≡ t)
same_front a b s t ha hb e =
    let f = fits_five a ha in
    let g = fits_five b hb in
    let front : column 5 a ≡ column 5 b = sym (take_at (column 5 a) s 5 (length_column 5 a f)) ∙ (ap (take 5) e ∙ take_at (column 5 b) t 5 (length_column 5 b g)) in
    let back : s ≡ t = sym (drop_at (column 5 a) s 5 (length_column 5 a f)) ∙ (ap (drop 5) e ∙ drop_at (column 5 b) t 5 (length_column 5 b g)) in
    (same_column 5 a b f g front, back)

-- the first line says one pair of counts only
pub same_counts : (bytes : List ℕ) (l n l' n' : ℕ) → Counts bytes l n → Counts bytes l' n' → (l ≡ l') × (n ≡ n')
same_counts bytes l n l' n' c d =
    let e = sym c.shown ∙ d.shown in
    let first = same_front l l' (column 5 n ++ newline ∷ []) (column 5 n' ++ newline ∷ []) (omega (arith, c.materials.1)) (omega (arith, d.materials.1)) e in
    let second = same_front n n' (newline ∷ []) (newline ∷ []) (omega (arith, c.units.1)) (omega (arith, d.units.1)) first.1 in
    (first.0, second.0)

-- lines on a page are told apart by their numbers
same_line : (l n : ℕ) (x y : Line) → OnPage l n x → OnPage l n y → line_number l x ≡ line_number l y → x ≡ y
same_line l n counts counts p q e = refl
same_line l n counts (material k) p q e = absurd (omega (arith, q.0))
same_line l n counts (unit k) p q e = absurd (omega (arith, q.0))
same_line l n (material j) counts p q e = absurd (omega (arith, p.0))
same_line l n (material j) (material k) p q e = ap material (omega arith)
same_line l n (material j) (unit k) p q e = absurd (omega (arith, p.1, q.0))
same_line l n (unit j) counts p q e = absurd (omega (arith, p.0))
same_line l n (unit j) (material k) p q e = absurd (omega (arith, p.0, q.1))
same_line l n (unit j) (unit k) p q e = ap unit (omega arith)

-- the number of a line on a page is at most that of the last
line_within : (l n : ℕ) (x : Line) → OnPage l n x → line_number l x ≤ l + n + 1
line_within l n counts p = omega arith
line_within l n (material k) p = omega (arith, p.1)
line_within l n (unit k) p = omega (arith, p.1)

-- only the line of counts has number 1
first_line : (l n : ℕ) (x : Line) → OnPage l n x → line_number l x ≤ 1 → x ≡ counts
first_line l n counts p h = refl
first_line l n (material k) p h = absurd (omega (arith, p.0))
first_line l n (unit k) p h = absurd (omega (arith, p.0))

-- and no line has number 0
line_counted : (l n : ℕ) (x : Line) → OnPage l n x → 1 ≤ line_number l x
line_counted l n counts p = omega arith
line_counted l n (material k) p = omega arith
line_counted l n (unit k) p = omega arith

-- a line has one first wrong field at most
same_wrong : (fs : List Field) (line : List ℕ) (b d : ℕ) → FirstWrong fs line b → FirstWrong fs line d → b ≡ d
same_wrong fs line b d v w = elim (cases_order v.place w.place) [
  | inl e ↦ v.begins ∙ (ap (λ i. columns_before fs i + 1) e ∙ sym w.begins)
  | inr o ↦ elim o [
    | inl h ↦ absurd (v.wrong (w.left_right v.place h))
    | inr h ↦ absurd (w.wrong (v.left_right w.place h))
  ]
]

-- bytes that should be a page with l materials and n units
module _ (bytes : List ℕ) (l n : ℕ) where
  -- a fault is in a line of the page or in the line after its last
  fault_within : (a b : ℕ) → FaultAt bytes l n a b → a ≤ l + n + 2
  fault_within a b (cut_short x on e z above cut) = omega (arith, line_within l n x on)
  fault_within a b (wrong_field x on e above whole wrong) = omega (arith, line_within l n x on)
  fault_within a b (bytes_after e z above more) = omega arith

  -- the lines above a fault are right
  right_above_fault : (a b : ℕ) → FaultAt bytes l n a b → RightAbove bytes l n a
  right_above_fault a b (cut_short x on e z above cut) = above
  right_above_fault a b (wrong_field x on e above whole wrong) = above
  right_above_fault a b (bytes_after e z above more) = above

  -- a fault is not above another
  fault_not_above : (a b c d : ℕ) → FaultAt bytes l n a b → FaultAt bytes l n c d → a < c → ⊥
  fault_not_above a b c d (cut_short x on e z above cut) f h = cut (right_above_fault c d f x on (omega arith)).whole
  fault_not_above a b c d (wrong_field x on e above whole wrong) f h = right_or_wrong (fields l x (line_bytes bytes l x)) (line_bytes bytes l x) b (right_above_fault c d f x on (omega arith)).right wrong
  fault_not_above a b c d (bytes_after e z above more) f h = omega (arith, fault_within c d f)

  -- faults in the same line are in the same column
  fault_same_column : (a b d : ℕ) → FaultAt bytes l n a b → FaultAt bytes l n a d → b ≡ d
  fault_same_column a b d (cut_short x on e z above cut) (cut_short y ony f w above' cut') = omega arith
  fault_same_column a b d (cut_short x on e z above cut) (wrong_field y ony f above' whole wrong) = absurd (cut (subst (Whole bytes l) (same_line l n y x ony on (omega arith)) whole))
  fault_same_column a b d (cut_short x on e z above cut) (bytes_after f w above' more) = omega arith
  fault_same_column a b d (wrong_field x on e above whole wrong) (cut_short y ony f w above' cut) = absurd (cut (subst (Whole bytes l) (same_line l n x y on ony (omega arith)) whole))
  fault_same_column a b d (wrong_field x on e above whole wrong) (wrong_field y ony f above' whole' wrong') =
      same_wrong (fields l y (line_bytes bytes l y)) (line_bytes bytes l y) b d (subst (λ v. FirstWrong (fields l v (line_bytes bytes l v)) (line_bytes bytes l v) b) (same_line l n x y on ony (omega arith)) wrong) wrong'
  fault_same_column a b d (wrong_field x on e above whole wrong) (bytes_after f w above' more) = absurd (omega (arith, line_within l n x on))
  fault_same_column a b d (bytes_after e z above more) (cut_short y ony f w above' cut) = omega arith
  fault_same_column a b d (bytes_after e z above more) (wrong_field y ony f above' whole wrong) = absurd (omega (arith, line_within l n y ony))
  fault_same_column a b d (bytes_after e z above more) (bytes_after f w above' more') = omega arith

  -- so there is at most one fault
  same_fault_at : (a b c d : ℕ) → FaultAt bytes l n a b → FaultAt bytes l n c d → (a ≡ c) × (b ≡ d)
  same_fault_at a b c d f g = elim (cases_order a c) [
    | inl e ↦ (e, fault_same_column c b d (subst (λ i. FaultAt bytes l n i b) e f) g)
    | inr o ↦ elim o [
      | inl h ↦ absurd (fault_not_above a b c d f g h)
      | inr h ↦ absurd (fault_not_above c d a b g f h)
    ]
  ]

-- no line stands above line 1
none_above_first : (bytes : List ℕ) (l n a : ℕ) → a ≤ 1 → RightAbove bytes l n a
none_above_first bytes l n a h x on less = absurd (omega (arith, line_counted l n x on))

-- a fault in line 1 is the same whatever the counts are
first_line_fault : (bytes : List ℕ) (l n l' n' a b : ℕ) → a ≤ 1 → FaultAt bytes l n a b → FaultAt bytes l' n' a b
first_line_fault bytes l n l' n' a b h (cut_short x on e z above cut) =
    let first = first_line l n x on (omega arith) in
    cut_short counts tt (e ∙ ap (line_number l) first) z (none_above_first bytes l' n' a h) (subst (λ v. Whole bytes l v → ⊥) first cut)
first_line_fault bytes l n l' n' a b h (wrong_field x on e above whole wrong) =
    let first = first_line l n x on (omega arith) in
    wrong_field counts tt (e ∙ ap (line_number l) first) (none_above_first bytes l' n' a h) (subst (Whole bytes l) first whole) (subst (λ v. FirstWrong (fields l v (line_bytes bytes l v)) (line_bytes bytes l v) b) first wrong)
first_line_fault bytes l n l' n' a b h (bytes_after e z above more) = absurd (omega arith)

-- a fault of bytes whose first line is right is one of a page with the counts that it says
pub fault_by_counts : (bytes : List ℕ) (l n a b : ℕ) → Counts bytes l n → Refused bytes a b → FaultAt bytes l n a b
fault_by_counts bytes l n a b c r = elim (cases_lt 1 a) [
  | inl h ↦ let same = same_counts bytes r.materials r.units l n (r.counted h) c in
      subst (λ i. FaultAt bytes l i a b) same.1 (subst (λ i. FaultAt bytes i r.units a b) same.0 r.fault)
  | inr h ↦ first_line_fault bytes r.materials r.units l n a b h r.fault
]

-- bytes have at most one first fault
pub same_fault : (bytes : List ℕ) (a b c d : ℕ) → Refused bytes a b → Refused bytes c d → (a ≡ c) × (b ≡ d)
same_fault bytes a b c d r s = elim (cases_lt 1 a) [
  | inl h ↦ same_fault_at bytes r.materials r.units a b c d r.fault (fault_by_counts bytes r.materials r.units c d (r.counted h) s)
  | inr h ↦ same_fault_at bytes s.materials s.units a b c d (first_line_fault bytes r.materials r.units s.materials s.units a b h r.fault) s.fault
]
