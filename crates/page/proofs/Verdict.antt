-- Of any bytes one answer only is right, and to have no fault is to be a page. Assumes nothing.
use Rattle.std.proofs.Common.{◌≡◌, ℕ, List, Ok, Err, Result, take, ap, ◌∙◌, arith}
use Rattle.book.specs.declared.PageFault.{PageFault}
use Rattle.page.specs.Layout.{line_bytes}
use Rattle.page.specs.Rules.{fields}
use Rattle.page.specs.Faults.{FaultAt, cut_short, wrong_field, bytes_after, Refused}
use Rattle.page.specs.Checked.{PageOf, Checked, SomePage, Faultless, FaultlessIsPage}
use Rattle.page.proofs.Scan.{right_or_wrong}
use Rattle.page.proofs.Pages.{page_size, page_counts, page_right}
use Rattle.page.proofs.Prefix.{first_bytes}
use Rattle.page.proofs.Unique.{same_counts, same_fault, fault_by_counts}

-- a page has no fault by its own counts
page_without_fault : (bytes : List ℕ) (l n a b : ℕ) → PageOf bytes l n → FaultAt bytes l n a b → ⊥
page_without_fault bytes l n a b p (cut_short x on e z above cut) = cut (page_right bytes l n p x on).whole
page_without_fault bytes l n a b p (wrong_field x on e above whole wrong) = right_or_wrong (fields l x (line_bytes bytes l x)) (line_bytes bytes l x) b (page_right bytes l n p x on).right wrong
page_without_fault bytes l n a b p (bytes_after e z above more) = omega (arith, page_size bytes l n p)

-- and so it has none at all
pub page_faultless : (bytes : List ℕ) (l n a b : ℕ) → PageOf bytes l n → Refused bytes a b → ⊥
page_faultless bytes l n a b p r = page_without_fault bytes l n a b p (fault_by_counts bytes l n a b (page_counts bytes l n p) r)

-- two answers that are right are the same
pub one_answer : (bytes : List ℕ) (r s : Result (ℕ × ℕ) PageFault) → Checked bytes r → Checked bytes s → s ≡ r
one_answer bytes (Ok p) (Ok q) c d =
    let same = same_counts bytes q.0 q.1 p.0 p.1 (page_counts bytes q.0 q.1 d) (page_counts bytes p.0 p.1 c) in
    ap (λ i. Ok (i, q.1)) same.0 ∙ ap (λ i. Ok (p.0, i)) same.1
one_answer bytes (Ok p) (Err f) c d = absurd (page_faultless bytes p.0 p.1 f.line f.column c d)
one_answer bytes (Err e) (Ok q) c d = absurd (page_faultless bytes q.0 q.1 e.line e.column d c)
one_answer bytes (Err e) (Err f) c d =
    let same = same_fault bytes f.line f.column e.line e.column d c in
    ap (λ i. Err (record { line = i; column = f.column })) same.0 ∙ ap (λ i. Err (record { line = e.line; column = i })) same.1

-- bytes that have no fault, and of which anything is answered, are a page
page_if_faultless : (bytes : List ℕ) (r : Result (ℕ × ℕ) PageFault) → Checked bytes r → Faultless bytes → SomePage bytes
page_if_faultless bytes (Ok p) c none = (p.0, p.1, c)
page_if_faultless bytes (Err f) c none = absurd (none f.line f.column c)

-- so where anything is answered, having no fault and being a page are the same
pub faultless_is_page : (bytes : List ℕ) (r : Result (ℕ × ℕ) PageFault) → Checked bytes r → FaultlessIsPage bytes
faultless_is_page bytes r c = (page_if_faultless bytes r c, λ p line column f. page_faultless bytes p.0 p.1 line column p.2 f)

-- all that the check promises of an answer follows from what it tells
pub verdict : (bytes : List ℕ) (r : Result (ℕ × ℕ) PageFault) → Checked bytes r → record { told : Checked bytes r; only : (other : Result (ℕ × ℕ) PageFault) → Checked bytes other → other ≡ r; faultless_is_page : FaultlessIsPage bytes; first_bytes_decide : Checked (take 48140 bytes) r }
verdict bytes r told = record {
  told = told;
  only = λ s t. one_answer bytes r s told t;
  faultless_is_page = faultless_is_page bytes r told;
  first_bytes_decide = first_bytes bytes r told;
}
