-- The page of an acceptable meaning: its size, its counts, and that each of its lines is right. Assumes nothing.
use Rattle.std.proofs.Common.{◌≡◌, ℕ, ◌+◌, ◌≤◌, List, [], ◌++◌, length, drop, sym, ap, ◌∙◌, subst, arith, length-append}
use Rattle.std.proofs.lemmas.List.{append-nil, take_at, drop_at}
use Rattle.book.specs.Meaning.{UnitState, Meaning, material_count, unit_count, StateWithin}
use Rattle.page.specs.Layout.{Line, counts, material, unit, line_start, line_bytes, page_length, OnPage}
use Rattle.page.specs.Format.{counts_line, material_line, unit_line, numbered, page_of}
use Rattle.page.specs.Rules.{fields}
use Rattle.page.specs.Faults.{AllRight, LineRight, Counts}
use Rattle.page.specs.Checked.{Settled, Acceptable, PageOf}
use Rattle.page.proofs.Numbered.{Numbers, number_at, numbers_both, numbers_weaker, numbers_from_all, numbers_up_to, places_from_numbered, numbered_end, material_next, unit_next}
use Rattle.page.proofs.Lines.{length_counts_line, length_material_line, length_unit_line, counts_right, material_right, unit_right}

-- what holds of the page of every acceptable meaning holds of all bytes that are a page
pub of_pages : (P : List ℕ → ℕ → ℕ → Type 0) → ((m : Meaning) → Acceptable m → P (page_of m) (material_count m) (unit_count m)) → (bytes : List ℕ) (l n : ℕ) → PageOf bytes l n → P bytes l n
of_pages P known bytes l n p =
    let m = p.meaning in
    subst (λ b. P b l n) (sym p.written)
    (subst (λ j. P (page_of m) j n) (sym p.materials)
    (subst (λ j. P (page_of m) (material_count m) j) (sym p.units) (known m p.acceptable)))

-- the three parts of a page: its first line, the lines of its materials, and those of its units
abbrev count_part : Meaning → List ℕ
count_part m = counts_line (material_count m) (unit_count m)

abbrev material_part : Meaning → List ℕ
material_part m = numbered material_line 1 m.materials

abbrev unit_part : Meaning → List ℕ
unit_part m = numbered unit_line 1 m.units

module _ (m : Meaning) (ok : Acceptable m) where
  -- state s may be that of unit i
  abbrev MayBe : ℕ → UnitState → Type 0
  MayBe i s = (i ≤ 512) × (StateWithin (material_count m) s × Settled s)

  -- the line of unit i in state s stands where it should
  abbrev Placed : ℕ → UnitState → Type 0
  Placed i s = line_bytes (page_of m) (material_count m) (unit i) ≡ unit_line i s

  -- each unit's state may be its state
  unit_states : Numbers MayBe 1 m.units
  unit_states =
      let l = material_count m in
      let known = numbers_both (λ i s. StateWithin l s) (λ i s. Settled s) 1 m.units (numbers_from_all (StateWithin l) 1 m.units ok.well_formed.lists) (numbers_from_all Settled 1 m.units ok.settled) in
      numbers_both (λ i s. i ≤ 512) (λ i s. StateWithin l s × Settled s) 1 m.units (numbers_up_to 512 1 m.units (omega (arith, ok.few_units))) known

  -- every line has the length that it should
  counts_long : length (count_part m) ≡ 11
  counts_long = length_counts_line (material_count m) (unit_count m) ok.few_materials ok.few_units

  materials_long : Numbers (λ i x. length (material_line i x) ≡ 7) 1 m.materials
  materials_long = numbers_weaker (λ i x. i ≤ 512) (λ i x. length (material_line i x) ≡ 7) length_material_line 1 m.materials (numbers_up_to 512 1 m.materials (omega (arith, ok.few_materials)))

  units_long : Numbers (λ i s. length (unit_line i s) ≡ 87) 1 m.units
  units_long = numbers_weaker MayBe (λ i s. length (unit_line i s) ≡ 87) (λ i s may. length_unit_line (material_count m) i s ok.few_materials may.0 may.1.0) 1 m.units unit_states

  -- so has the page
  meaning_size : length (page_of m) ≡ page_length (material_count m) (unit_count m)
  meaning_size =
      let a = counts_long in
      let b = numbered_end material_line 7 (λ k. line_start 0 (material k)) (material_next 0) 1 m.materials (omega arith) materials_long in
      let c = numbered_end unit_line 87 (λ k. line_start 0 (unit k)) (unit_next 0) 1 m.units (omega arith) units_long in
      omega (arith, length-append (count_part m) (material_part m ++ unit_part m), length-append (material_part m) (unit_part m))

  -- its first line says its counts
  meaning_counts : Counts (page_of m) (material_count m) (unit_count m)
  meaning_counts = record {
    materials = (ok.some_material, ok.few_materials);
    units = (ok.some_unit, ok.few_units);
    shown = take_at (count_part m) (material_part m ++ unit_part m) 11 counts_long;
  }

  -- the lines of the materials stand where they should, and those of the units follow
  material_places : Numbers (λ i x. line_bytes (page_of m) (material_count m) (material i) ≡ material_line i x) 1 m.materials × (drop (line_start 0 (material (1 + material_count m))) (page_of m) ≡ unit_part m)
  material_places =
      places_from_numbered material_line 7 (λ k. line_start 0 (material k)) (material_next 0) (page_of m) (unit_part m) 1 m.materials (omega arith) materials_long
      (drop_at (count_part m) (material_part m ++ unit_part m) 11 counts_long)

  unit_places : Numbers Placed 1 m.units
  unit_places =
      let l = material_count m in
      let start : line_start l (unit 1) ≡ line_start 0 (material (1 + l)) = omega arith in
      (places_from_numbered unit_line 87 (λ k. line_start l (unit k)) (unit_next l) (page_of m) [] 1 m.units (omega arith) units_long
      (ap (λ i. drop i (page_of m)) start ∙ (material_places.1 ∙ sym (append-nil (unit_part m))))).0

  -- each line is whole and right
  meaning_right : (x : Line) → OnPage (material_count m) (unit_count m) x → LineRight (page_of m) (material_count m) x
  meaning_right counts on =
      let l = material_count m in
      record {
        whole = omega (arith, meaning_size);
        right = subst (λ t. AllRight (fields l counts t) t) (sym meaning_counts.shown) (counts_right l l (unit_count m) ok.some_material ok.few_materials ok.some_unit ok.few_units);
      }
  meaning_right (material k) on =
      let l = material_count m in
      let there = number_at (λ i x. line_bytes (page_of m) l (material i) ≡ material_line i x) 1 m.materials material_places.0 k on.0 (omega (arith, on.1)) in
      record {
        whole = omega (arith, meaning_size, on.0, on.1);
        right = subst (λ t. AllRight (fields l (material k) t) t) (sym there.1) (material_right l k there.0 (omega (arith, on.1, ok.few_materials)));
      }
  meaning_right (unit k) on =
      let l = material_count m in
      let there = number_at (λ i s. Placed i s × MayBe i s) 1 m.units (numbers_both Placed MayBe 1 m.units unit_places unit_states) k on.0 (omega (arith, on.1)) in
      let may = there.1.1 in
      record {
        whole = omega (arith, meaning_size, on.0, on.1);
        right = subst (λ t. AllRight (fields l (unit k) t) t) (sym there.1.0) (unit_right l k there.0 ok.few_materials may.0 may.1.0 may.1.1);
      }

-- a page has the size that its counts say
pub page_size : (bytes : List ℕ) (l n : ℕ) → PageOf bytes l n → length bytes ≡ page_length l n
page_size = of_pages (λ bytes l n. length bytes ≡ page_length l n) meaning_size

-- its first line says its counts
pub page_counts : (bytes : List ℕ) (l n : ℕ) → PageOf bytes l n → Counts bytes l n
page_counts = of_pages Counts meaning_counts

-- and each of its lines is right
pub page_right : (bytes : List ℕ) (l n : ℕ) → PageOf bytes l n → (x : Line) → OnPage l n x → LineRight bytes l x
page_right = of_pages (λ bytes l n. (x : Line) → OnPage l n x → LineRight bytes l x) meaning_right
