-- The page of a meaning in which one unit or one material is another: one line is overwritten. Assumes nothing.
use Rattle.std.proofs.Common.{◌≡◌, ℕ, zero, suc, ◌+◌, ◌-◌, ◌*◌, ◌<◌, ◌≤◌, List, [], ◌∷◌, ◌++◌, length, set, sym, ap, ◌∙◌, mul-zero, mul-suc, arith}
use Rattle.std.proofs.lemmas.List.{length-set, drop_at}
use Rattle.book.specs.Meaning.{Material, UnitState, Meaning, material_count, unit_count, StateWithin, WellFormed}
use Rattle.book.specs.Edits.{with_unit, with_material}
use Rattle.page.specs.Layout.{material, unit, line_start}
use Rattle.page.specs.Format.{counts_line, material_line, unit_line, numbered, page_of}
use Rattle.page.proofs.Numbered.{Numbers, numbers_both, numbers_weaker, numbers_from_all, numbers_up_to, numbered_end, material_next}
use Rattle.page.proofs.Lines.{length_counts_line, length_material_line, length_unit_line}
use Rattle.pagebook.specs.Writes.{over}
use Rattle.pagebook.proofs.Overwritten.{over_behind, over_before}

-- numbered lines of w bytes each, of which one is the line of something else: that line is overwritten
numbered_set : {X : Type 0} (line : ℕ → X → List ℕ) (w j : ℕ) (xs : List X) (i k : ℕ) (x : X) → i < length xs → j + i ≡ k → Numbers (λ n y. length (line n y) ≡ w) j xs → length (line k x) ≡ w → numbered line j (set xs i x) ≡ over (w * i) (line k x) (numbered line j xs)
numbered_set line w j [] i k x h e ws wide = absurd (omega arith)
numbered_set line w j (y ∷ ys) zero k x h e ws wide =
    let here : j ≡ k = omega arith in
    let rest = numbered line (j + 1) ys in
    let first = ws.0 in
    let behind = drop_at (line j y) rest (0 + length (line k x)) (omega arith) in
    ap (λ n. line n x ++ rest) here
    ∙ (ap (λ (t : List ℕ). line k x ++ t) (sym behind) ∙ ap (λ p. over p (line k x) (line j y ++ rest)) (sym (mul-zero w)))
numbered_set line w j (y ∷ ys) (suc i) k x h e ws wide =
    let first = ws.0 in
    let step = mul-suc w i in
    ap (λ (t : List ℕ). line j y ++ t) (numbered_set line w (j + 1) ys i k x (omega arith) (omega arith) ws.1 wide)
    ∙ sym (over_behind (line j y) (numbered line (j + 1) ys) (line k x) (w * i) (w * suc i) (omega arith))

-- a meaning whose page has the usual lines
module _ (m : Meaning) (formed : WellFormed m) (few_materials : material_count m ≤ 512) (few_units : unit_count m ≤ 512) where
  -- the lines of its materials have 7 bytes each
  materials_long : Numbers (λ i x. length (material_line i x) ≡ 7) 1 m.materials
  materials_long = numbers_weaker (λ i x. i ≤ 512) (λ i x. length (material_line i x) ≡ 7) length_material_line 1 m.materials (numbers_up_to 512 1 m.materials (omega arith))

  -- and those of its units 87
  units_long : Numbers (λ i s. length (unit_line i s) ≡ 87) 1 m.units
  units_long =
      let l = material_count m in
      numbers_weaker (λ i s. (i ≤ 512) × StateWithin l s) (λ i s. length (unit_line i s) ≡ 87) (λ i s may. length_unit_line l i s few_materials may.0 may.1) 1 m.units
      (numbers_both (λ i s. i ≤ 512) (λ i s. StateWithin l s) 1 m.units (numbers_up_to 512 1 m.units (omega arith)) (numbers_from_all (StateWithin l) 1 m.units formed.lists))

  -- its first line has 11 bytes
  counts_long : length (counts_line (material_count m) (unit_count m)) ≡ 11
  counts_long = length_counts_line (material_count m) (unit_count m) few_materials few_units

  -- and the lines of its materials have 7 bytes for each together
  materials_size : length (numbered material_line 1 m.materials) ≡ 7 * material_count m
  materials_size = omega (arith, numbered_end material_line 7 (λ k. line_start 0 (material k)) (material_next 0) 1 m.materials (omega arith) materials_long)

  -- the page with another unit k is this page with the line of unit k overwritten
  pub page_with_unit : (k : ℕ) (s : UnitState) → 1 ≤ k → k ≤ unit_count m → length (unit_line k s) ≡ 87 → page_of (with_unit m k s) ≡ over (line_start (material_count m) (unit k)) (unit_line k s) (page_of m)
  page_with_unit k s some known long =
      let l = material_count m in
      let first = counts_line l (unit_count m) in
      let ms = numbered material_line 1 m.materials in
      let us = numbered unit_line 1 m.units in
      let line = unit_line k s in
      let place = 87 * (k - 1) in
      ap (λ n. counts_line l n ++ (ms ++ numbered unit_line 1 (set m.units (k - 1) s))) (length-set m.units (k - 1) s)
      ∙ (ap (λ (t : List ℕ). first ++ (ms ++ t)) (numbered_set unit_line 87 1 m.units (k - 1) k s (omega arith) (omega arith) units_long long)
      ∙ sym (over_behind first (ms ++ us) line (7 * l + place) (line_start l (unit k)) (omega (arith, counts_long))
      ∙ ap (λ (t : List ℕ). first ++ t) (over_behind ms us line place (7 * l + place) (omega (arith, materials_size)))))

  -- and the page with another material k is this page with the line of material k overwritten
  pub page_with_material : (k : ℕ) (x : Material) → 1 ≤ k → k ≤ material_count m → length (material_line k x) ≡ 7 → page_of (with_material m k x) ≡ over (line_start 0 (material k)) (material_line k x) (page_of m)
  page_with_material k x some known long =
      let first = counts_line (material_count m) (unit_count m) in
      let ms = numbered material_line 1 m.materials in
      let us = numbered unit_line 1 m.units in
      let line = material_line k x in
      let place = 7 * (k - 1) in
      ap (λ n. counts_line n (unit_count m) ++ (numbered material_line 1 (set m.materials (k - 1) x) ++ us)) (length-set m.materials (k - 1) x)
      ∙ (ap (λ (t : List ℕ). first ++ (t ++ us)) (numbered_set material_line 7 1 m.materials (k - 1) k x (omega arith) (omega arith) materials_long long)
      ∙ sym (over_behind first (ms ++ us) line place (line_start 0 (material k)) (omega (arith, counts_long))
      ∙ ap (λ (t : List ℕ). first ++ t) (over_before ms us line place (omega (arith, materials_size)))))
