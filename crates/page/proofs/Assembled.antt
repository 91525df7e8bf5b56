-- Bytes whose lines are all right, and no more, are a page. Assumes nothing.
use Rattle.std.proofs.Common.{◌≡◌, ℕ, ◌+◌, ◌≤◌, List, [], ◌++◌, length, drop, sym, ap, ◌∙◌, subst, arith, length-drop, length-take}
use Rattle.std.specs.List.{AllByRecursion}
use Rattle.std.proofs.lemmas.List.{append-nil, take-append-drop, drop_all}
use Rattle.std.proofs.ByRecursion.{All-weaker}
use Rattle.book.specs.Meaning.{Material, UnitState, StateWithin}
use Rattle.page.specs.Layout.{Line, material, unit, line_length, line_start, line_bytes, page_length, Whole}
use Rattle.page.specs.Format.{counts_line, material_line, unit_line, numbered}
use Rattle.page.specs.Faults.{LineRight, Counts}
use Rattle.page.specs.Checked.{Settled, PageOf}
use Rattle.page.proofs.Numbered.{gathered, numbers_weaker, all_from_numbers, numbered_from_places, material_next, unit_next}
use Rattle.page.proofs.Lines.{material_from_right, unit_from_right}

-- a line that the bytes reach to the end of has all its bytes
pub length_line : (bytes : List ℕ) (l : ℕ) (x : Line) → Whole bytes l x → length (line_bytes bytes l x) ≡ line_length x
length_line bytes l x whole = length-take (line_length x) (drop (line_start l x) bytes) ∙ omega (arith, length-drop (line_start l x) bytes)

-- a state that may stand on a page with l materials
abbrev MayStand : ℕ → UnitState → Type 0
MayStand l s = StateWithin l s × Settled s

-- a right line of a material is that of some material
shown_material : (bytes : List ℕ) (l k : ℕ) → LineRight bytes l (material k) → (m : Material) × (line_bytes bytes l (material k) ≡ material_line k m)
shown_material bytes l k r = material_from_right l k (line_bytes bytes l (material k)) (length_line bytes l (material k) r.whole) r.right

-- and a right line of a unit is that of some state
shown_unit : (bytes : List ℕ) (l k : ℕ) → LineRight bytes l (unit k) → (s : UnitState) × ((line_bytes bytes l (unit k) ≡ unit_line k s) × MayStand l s)
shown_unit bytes l k r =
    let u = unit_from_right l k (line_bytes bytes l (unit k)) (length_line bytes l (unit k) r.whole) r.right in
    (u.state, (u.written, (u.within, u.settled)))

-- bytes that are the lines of counts, of materials and of units, one after another, are the page of the meaning with these
page_from_lists : (bytes : List ℕ) (l n : ℕ) → Counts bytes l n → (ms : List Material) (us : List UnitState) → length ms ≡ l → length us ≡ n → AllByRecursion (MayStand l) us → bytes ≡ counts_line l n ++ (numbered material_line 1 ms ++ numbered unit_line 1 us) → PageOf bytes l n
page_from_lists bytes l n c ms us el en all e = record {
  meaning = record { materials = ms; units = us };
  acceptable = record {
    well_formed = record {
      few_materials = omega (arith, c.materials.1);
      few_units = omega (arith, c.units.1);
      lists = subst (λ j. AllByRecursion (StateWithin j) us) (sym el) (All-weaker (MayStand l) (StateWithin l) (λ s p. p.0) us all);
    };
    some_material = omega (arith, c.materials.0);
    few_materials = omega (arith, c.materials.1);
    some_unit = omega (arith, c.units.0);
    few_units = omega (arith, c.units.1);
    settled = All-weaker (MayStand l) Settled (λ s p. p.1) us all;
  };
  materials = sym el;
  units = sym en;
  written = cc;
}

-- bytes whose lines are all right, and no more, are the page of an acceptable meaning
pub assembled : (bytes : List ℕ) (l n : ℕ) → Counts bytes l n → ((k : ℕ) → 1 ≤ k → k ≤ l → LineRight bytes l (material k)) → ((k : ℕ) → 1 ≤ k → k ≤ n → LineRight bytes l (unit k)) → length bytes ≡ page_length l n → PageOf bytes l n
assembled bytes l n c materials units size =
    let Q : ℕ → UnitState → Type 0 = λ k s. line_bytes bytes l (unit k) ≡ unit_line k s in
    let R : ℕ → UnitState → Type 0 = λ k s. MayStand l s in
    let m = gathered (λ k x. line_bytes bytes l (material k) ≡ material_line k x) 1 l (λ k low high. shown_material bytes l k (materials k low (omega arith))) in
    let u = gathered (λ k s. Q k s × R k s) 1 n (λ k low high. shown_unit bytes l k (units k low (omega arith))) in
    let ms = m.0 in
    let us = u.0 in
    let el = m.1 in
    let en = u.1 in
    let placed = numbers_weaker (λ k s. Q k s × R k s) Q (λ k s p. p.0) 1 us u.2 in
    let standing = all_from_numbers (MayStand l) 1 us (numbers_weaker (λ k s. Q k s × R k s) R (λ k s p. p.1) 1 us u.2) in
    let first = numbered_from_places material_line 7 (λ k. line_start l (material k)) (material_next l) bytes 1 ms (omega arith) m.2 in
    let second = numbered_from_places unit_line 87 (λ k. line_start l (unit k)) (unit_next l) bytes 1 us (omega arith) placed in
    let between : line_start l (material (1 + length ms)) ≡ line_start l (unit 1) = omega arith in
    let none : drop (line_start l (unit (1 + length us))) bytes ≡ [] = drop_all (line_start l (unit (1 + length us))) bytes (omega arith) in
    let last = second ∙ (ap (λ t. numbered unit_line 1 us ++ t) none ∙ append-nil (numbered unit_line 1 us)) in
    let below = first ∙ ap (λ t. numbered material_line 1 ms ++ t) (ap (λ i. drop i bytes) between ∙ last) in
    page_from_lists bytes l n c ms us el en standing (sym (take-append-drop 11 bytes) ∙ (ap (λ t. t ++ drop 11 bytes) c.shown ∙ ap (λ t. counts_line l n ++ t) below))
