-- Overwriting the bytes of one line of a page changes what that line means, and nothing else. Assumes nothing.
use Rattle.std.proofs.Common.{◌≡◌, ℕ, zero, suc, ◌+◌, ◌-◌, ◌<◌, ◌≤◌, Bool, cond, ◌&&◌, leb, ◌≢◌, List, map, length, drop, set, refl, ap, ◌∙◌, inl, inr, arith}
use Rattle.std.specs.List.{range_with_len}
use Rattle.std.proofs.lemmas.Bool.{cases_lt}
use Rattle.book.specs.Meaning.{Material, UnitState, Meaning}
use Rattle.book.specs.Edits.{with_unit, with_material}
use Rattle.page.specs.Layout.{number_width, most, material, unit, line_start, page_length}
use Rattle.pagebook.specs.Reading.{number_shown, material_in, unit_in, first_count, second_count, room, materials_on, units_on, material_on, unit_on, of_page}
use Rattle.pagebook.specs.PageBooks.{extent}
use Rattle.pagebook.specs.PageLaws.{room_there}
use Rattle.pagebook.specs.Writes.{over}
use Rattle.pagebook.proofs.Overwritten.{length_over, take_over, drop_over, part_before, part_after, part_over}

-- two functions that agree on n numbers from a on make the same list of them
pub same_counting : {X : Type 0} (f g : ℕ → X) (a n : ℕ) → ((j : ℕ) → a ≤ j → j < a + n → g j ≡ f j) → map g (range_with_len a n) ≡ map f (range_with_len a n)
same_counting f g a zero same = refl
same_counting f g a (suc n) same =
    let here = same a (omega arith) (omega arith) in
    let rest = same_counting f g (a + 1) n (λ j low high. same j (omega arith) (omega arith)) in
    cc

-- two that agree on all of them but k make lists that differ there only
pub set_counting : {X : Type 0} (f g : ℕ → X) (a n i k : ℕ) (x : X) → i < n → a + i ≡ k → ((j : ℕ) → a ≤ j → j < a + n → j ≢ k → g j ≡ f j) → g k ≡ x → map g (range_with_len a n) ≡ set (map f (range_with_len a n)) i x
set_counting f g a zero i k x h e others here = absurd (omega arith)
set_counting f g a (suc n) zero k x h e others here =
    let first : a ≡ k = omega arith in
    let rest = same_counting f g (a + 1) n (λ j low high. others j (omega arith) (omega arith) (λ s. omega arith)) in
    cc
set_counting f g a (suc n) (suc i) k x h e others here =
    let first = others a (omega arith) (omega arith) (λ s. omega arith) in
    let rest = set_counting f g (a + 1) n i k x (omega arith) (omega arith) (λ j low high s. others j (omega arith) (omega arith) s) here in
    cc

-- bytes before and after a line is overwritten: as many, with the same counts, and with the same behind the page; and what
-- they mean after
pub record Rewritten (before after : List ℕ) (made : Meaning) : Type 0 where
  pub size : length after ≡ length before
  pub materials : materials_on after ≡ materials_on before
  pub units : units_on after ≡ units_on before
  pub beyond : drop (extent before) after ≡ drop (extent before) before
  pub meaning : of_page after ≡ made

-- a line written behind the first line of a page, within the bytes
module _ (p : ℕ) (line bytes : List ℕ) (low : 11 ≤ p) (whole : p + length line ≤ length bytes) where
  -- the first count that its first line shows is as it was
  first_same : first_count (over p line bytes) ≡ first_count bytes
  first_same = ap number_shown (take_over p line bytes whole number_width (omega arith))

  -- and so is the second
  second_same : second_count (over p line bytes) ≡ second_count bytes
  second_same = ap number_shown (part_before p line bytes whole number_width number_width (omega arith))

  -- so there is room for a page with these counts where there was before
  room_same : room (over p line bytes) ≡ room bytes
  room_same =
      let test : ℕ → ℕ → ℕ → Bool = λ a b n. leb a most && (leb b most && leb (page_length a b) n) in
      ap (λ a. test a (second_count (over p line bytes)) (length (over p line bytes))) first_same
      ∙ (ap (λ b. test (first_count bytes) b (length (over p line bytes))) second_same
      ∙ ap (λ n. test (first_count bytes) (second_count bytes) n) (length_over p line bytes whole))

  -- and the bytes have as many materials as before
  materials_same : materials_on (over p line bytes) ≡ materials_on bytes
  unfolding materials_on
  materials_same = ap (λ b. cond b (first_count (over p line bytes)) 0) room_same ∙ ap (λ n. cond (room bytes) n 0) first_same

  -- and as many units
  units_same : units_on (over p line bytes) ≡ units_on bytes
  unfolding units_on
  units_same = ap (λ b. cond b (second_count (over p line bytes)) 0) room_same ∙ ap (λ n. cond (room bytes) n 0) second_same

  -- where the line lies within the page too: only the lists that the lines are read as are left to know
  rewritten : p + length line ≤ extent bytes → (ms : List Material) (us : List UnitState)
      → map (material_on (over p line bytes)) (range_with_len 1 (materials_on bytes)) ≡ ms
      → map (unit_on (over p line bytes) (materials_on bytes)) (range_with_len 1 (units_on bytes)) ≡ us
      → Rewritten bytes (over p line bytes) (record { materials = ms; units = us })
  rewritten high ms us em eu =
      let after = over p line bytes in
      let make : List Material → List UnitState → Meaning = λ x y. record { materials = x; units = y } in
      let materials : map (material_on after) (range_with_len 1 (materials_on after)) ≡ ms = ap (λ n. map (material_on after) (range_with_len 1 n)) materials_same ∙ em in
      let units : map (unit_on after (materials_on after)) (range_with_len 1 (units_on after)) ≡ us =
      ap (λ l. map (unit_on after l) (range_with_len 1 (units_on after))) materials_same ∙ (ap (λ n. map (unit_on after (materials_on bytes)) (range_with_len 1 n)) units_same ∙ eu) in
      record {
        size = length_over p line bytes whole;
        materials = materials_same;
        units = units_same;
        beyond = drop_over p line bytes whole (extent bytes) high;
        meaning = ap (λ x. make x (of_page after).units) materials ∙ ap (make ms) units;
      }

-- overwriting the line of unit k changes that unit to what the new line means
pub unit_over : (bytes line : List ℕ) (k : ℕ) → 1 ≤ k → k ≤ units_on bytes → length line ≡ 87 → Rewritten bytes (over (line_start (materials_on bytes) (unit k)) line bytes) (with_unit (of_page bytes) k (unit_in (materials_on bytes) line))
unit_over bytes line k some known long =
    let l = materials_on bytes in
    let n = units_on bytes in
    let p = line_start l (unit k) in
    let room : extent bytes ≤ length bytes = room_there bytes (inr (omega arith)) in
    let high : p + length line ≤ extent bytes = omega arith in
    let whole : p + length line ≤ length bytes = omega arith in
    rewritten p line bytes (omega arith) whole high (of_page bytes).materials (set (of_page bytes).units (k - 1) (unit_in l line))
    (same_counting (material_on bytes) (material_on (over p line bytes)) 1 l (λ j low below. ap material_in (part_before p line bytes whole (line_start 0 (material j)) 7 (omega arith))))
    (set_counting (unit_on bytes l) (unit_on (over p line bytes) l) 1 n (k - 1) k (unit_in l line) (omega arith) (omega arith)
    (λ j low below other. ap (unit_in l) (elim (cases_lt j k) [
      | inl h ↦ part_before p line bytes whole (line_start l (unit j)) 87 (omega arith)
      | inr h ↦ part_after p line bytes whole (line_start l (unit j)) 87 (omega (arith, other))
    ]))
    (ap (unit_in l) (part_over p line bytes whole 87 long)))

-- and overwriting the line of material k changes that material
pub material_over : (bytes line : List ℕ) (k : ℕ) → 1 ≤ k → k ≤ materials_on bytes → length line ≡ 7 → Rewritten bytes (over (line_start 0 (material k)) line bytes) (with_material (of_page bytes) k (material_in line))
material_over bytes line k some known long =
    let l = materials_on bytes in
    let n = units_on bytes in
    let p = line_start 0 (material k) in
    let room : extent bytes ≤ length bytes = room_there bytes (inl (omega arith)) in
    let high : p + length line ≤ extent bytes = omega arith in
    let whole : p + length line ≤ length bytes = omega arith in
    rewritten p line bytes (omega arith) whole high (set (of_page bytes).materials (k - 1) (material_in line)) (of_page bytes).units
    (set_counting (material_on bytes) (material_on (over p line bytes)) 1 l (k - 1) k (material_in line) (omega arith) (omega arith)
    (λ j low below other. ap material_in (elim (cases_lt j k) [
      | inl h ↦ part_before p line bytes whole (line_start 0 (material j)) 7 (omega arith)
      | inr h ↦ part_after p line bytes whole (line_start 0 (material j)) 7 (omega (arith, other))
    ]))
    (ap material_in (part_over p line bytes whole 7 long)))
    (same_counting (unit_on bytes l) (unit_on (over p line bytes) l) 1 n (λ j low below. ap (unit_in l) (part_after p line bytes whole (line_start l (unit j)) 87 (omega arith))))
