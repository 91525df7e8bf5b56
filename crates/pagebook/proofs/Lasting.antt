-- Bytes that are exactly the page of what they mean: they stay so where one line is overwritten, and each of their lines is
-- the one for what it means. Assumes nothing.
use Rattle.std.proofs.Common.{◌≡◌, ℕ, ◌-◌, ◌≤◌, List, length, take, drop, sym, ap, ◌∙◌, inl, inr, arith}
use Rattle.std.proofs.lemmas.List.{set-get_or}
use Rattle.std.proofs.ByRecursion.{All-get_or}
use Rattle.book.specs.Meaning.{Material, UnitState, free, Meaning, material_count, StateWithin, WellFormed}
use Rattle.book.specs.Declined.{state_at}
use Rattle.book.specs.Asked.{plain, material_at}
use Rattle.book.specs.Edits.{with_unit, with_material}
use Rattle.page.specs.Layout.{material, unit, line_start, line_bytes}
use Rattle.page.specs.Format.{material_line, unit_line, page_of}
use Rattle.page.proofs.Lines.{length_material_line, length_unit_line}
use Rattle.pagebook.specs.Reading.{material_in, unit_in, materials_on, units_on, of_page}
use Rattle.pagebook.specs.PageBooks.{extent, Canonical}
use Rattle.pagebook.specs.Writes.{over}
use Rattle.pagebook.proofs.Overwritten.{part_over}
use Rattle.pagebook.specs.PageLaws.{few_materials, few_units, room_there, count_materials, count_units}
use Rattle.pagebook.proofs.Written.{unit_over, material_over}
use Rattle.pagebook.proofs.Paged.{page_with_unit, page_with_material}

-- the state that a unit number has, put there again, changes nothing
same_unit : (m : Meaning) (k : ℕ) → with_unit m k (state_at m k) ≡ m
same_unit m k = rw (set-get_or m.units (k - 1) free)

-- nor does the material that is there already
same_material : (m : Meaning) (k : ℕ) → with_material m k (material_at m k) ≡ m
same_material m k = rw (set-get_or m.materials (k - 1) plain)

-- bytes that are exactly the page of what they mean
module _ (bytes : List ℕ) (formed : WellFormed (of_page bytes)) (canonical : Canonical bytes) where
  -- the page of what they mean with another unit k is they with the line of that unit overwritten
  bytes_with_unit : (k : ℕ) (s : UnitState) → 1 ≤ k → k ≤ units_on bytes → length (unit_line k s) ≡ 87 → page_of (with_unit (of_page bytes) k s) ≡ over (line_start (materials_on bytes) (unit k)) (unit_line k s) bytes
  bytes_with_unit k s some known long =
      let m = of_page bytes in
      let line = unit_line k s in
      let cm = count_materials bytes in
      let cu = count_units bytes in
      page_with_unit m formed (omega (arith, few_materials bytes)) (omega (arith, few_units bytes)) k s some (omega arith) long
      ∙ (ap (λ l. over (line_start l (unit k)) line (page_of m)) cm ∙ ap (over (line_start (materials_on bytes) (unit k)) line) (sym canonical))

  -- and likewise with another material k
  bytes_with_material : (k : ℕ) (x : Material) → 1 ≤ k → k ≤ materials_on bytes → length (material_line k x) ≡ 7 → page_of (with_material (of_page bytes) k x) ≡ over (line_start 0 (material k)) (material_line k x) bytes
  bytes_with_material k x some known long =
      let cm = count_materials bytes in
      let cu = count_units bytes in
      page_with_material (of_page bytes) formed (omega (arith, few_materials bytes)) (omega (arith, few_units bytes)) k x some (omega arith) long
      ∙ ap (over (line_start 0 (material k)) (material_line k x)) (sym canonical)

-- overwriting the line of unit k by the line of a state, where that line means that state, leaves bytes that are exactly the
-- page of what they mean
pub unit_canonical : (bytes line : List ℕ) (k : ℕ) (s : UnitState) → WellFormed (of_page bytes) → 1 ≤ k → k ≤ units_on bytes → Canonical bytes → length line ≡ 87 → line ≡ unit_line k s → unit_in (materials_on bytes) line ≡ s → Canonical (over (line_start (materials_on bytes) (unit k)) line bytes)
unit_canonical bytes line k s formed some known canonical long is means =
    ap (λ (t : List ℕ). over (line_start (materials_on bytes) (unit k)) t bytes) is
    ∙ (sym (bytes_with_unit bytes formed canonical k s some known (ap length (sym is) ∙ long))
    ∙ ap page_of (sym ((unit_over bytes line k some known long).meaning ∙ ap (with_unit (of_page bytes) k) means)))

-- and so does overwriting the line of material k by the line of a material, where that line means that material
pub material_canonical : (bytes line : List ℕ) (k : ℕ) (m : Material) → WellFormed (of_page bytes) → 1 ≤ k → k ≤ materials_on bytes → Canonical bytes → line ≡ material_line k m → material_in line ≡ m → length line ≡ 7 → Canonical (over (line_start 0 (material k)) line bytes)
material_canonical bytes line k m formed some known canonical is means long =
    ap (λ (t : List ℕ). over (line_start 0 (material k)) t bytes) is
    ∙ (sym (bytes_with_material bytes formed canonical k m some known (ap length (sym is) ∙ long))
    ∙ ap page_of (sym ((material_over bytes line k some known long).meaning ∙ ap (with_material (of_page bytes) k) means)))

-- in bytes that are exactly the page of what they mean, the line of unit k is the one for its state
pub unit_line_there : (bytes : List ℕ) (k : ℕ) → WellFormed (of_page bytes) → Canonical bytes → 1 ≤ k → k ≤ units_on bytes → line_bytes bytes (materials_on bytes) (unit k) ≡ unit_line k (state_at (of_page bytes) k)
unit_line_there bytes k formed canonical some known =
    let m = of_page bytes in
    let l = materials_on bytes in
    let p = line_start l (unit k) in
    let s = state_at m k in
    let cm = count_materials bytes in
    let cu = count_units bytes in
    let long : length (unit_line k s) ≡ 87 =
    length_unit_line (material_count m) k s (omega (arith, few_materials bytes)) (omega (arith, few_units bytes)) (All-get_or (StateWithin (material_count m)) m.units (k - 1) free (omega arith) formed.lists) in
    let written : bytes ≡ over p (unit_line k s) bytes = canonical ∙ (ap page_of (sym (same_unit m k)) ∙ bytes_with_unit bytes formed canonical k s some known long) in
    let room : extent bytes ≤ length bytes = room_there bytes (inr (omega arith)) in
    ap (λ (t : List ℕ). take 87 (drop p t)) written ∙ part_over p (unit_line k s) bytes (omega arith) 87 long

-- and the line of material k is the one for that material
pub material_line_there : (bytes : List ℕ) (k : ℕ) → WellFormed (of_page bytes) → Canonical bytes → 1 ≤ k → k ≤ materials_on bytes → line_bytes bytes 0 (material k) ≡ material_line k (material_at (of_page bytes) k)
material_line_there bytes k formed canonical some known =
    let m = of_page bytes in
    let p = line_start 0 (material k) in
    let x = material_at m k in
    let long : length (material_line k x) ≡ 7 = length_material_line k x (omega (arith, few_materials bytes)) in
    let written : bytes ≡ over p (material_line k x) bytes = canonical ∙ (ap page_of (sym (same_material m k)) ∙ bytes_with_material bytes formed canonical k x some known long) in
    let room : extent bytes ≤ length bytes = room_there bytes (inl (omega arith)) in
    ap (λ (t : List ℕ). take 7 (drop p t)) written ∙ part_over p (material_line k x) bytes (omega arith) 7 long
