-- What is read from the page of a book: that book. Assumes nothing.
use Rattle.std.proofs.Common.{◌≡◌, ℕ, ◌+◌, ◌<◌, ◌≤◌, Bool, true, false, ◌&&◌, leb, List, [], ◌∷◌, ◌++◌, map, length, take, drop, sym, refl, ap, ◌∙◌, arith, length-append}
use Rattle.std.specs.List.{range_with_len, AllByRecursion}
use Rattle.std.proofs.ByRecursion.{All-weaker}
use Rattle.std.proofs.lemmas.List.{append_assoc, append-nil, take_at, drop_at}
use Rattle.std.proofs.lemmas.Bool.{le-leb, and_from, cond-true}
use Rattle.book.specs.Meaning.{Material, UnitState, free, standing, withheld, Meaning, material_count, unit_count, Listed, StateWithin, WellFormed}
use Rattle.columns.specs.Columns.{column}
use Rattle.columns.proofs.Laws.{fits_five, length_column, shows_column}
use Rattle.page.specs.Layout.{number_width, list_width, most, material, unit, line_start, line_bytes, page_length}
use Rattle.page.specs.Format.{newline, state_letter, inputs_of, outputs_of, list_bytes, counts_line, material_line, unit_line, numbered, page_of}
use Rattle.page.specs.Rules.{inputs_in, outputs_in}
use Rattle.page.specs.Checked.{Rising, Settled, Acceptable}
use Rattle.page.proofs.Lists.{length_list_bytes}
use Rattle.page.proofs.Lines.{length_counts_line, length_material_line, length_unit_line}
use Rattle.page.proofs.Numbered.{Numbers, numbers_both, numbers_weaker, numbers_from_all, numbers_up_to, places_from_numbered, numbered_end, material_next, unit_next}
use Rattle.pagebook.specs.Reading.{number_shown, list_in, material_in, unit_in, first_count, second_count, room, materials_on, units_on, material_on, unit_on, of_page}
use Rattle.pagebook.specs.PageBooks.{Canonical}
use Rattle.pagebook.proofs.Shown.{shown_number}
use Rattle.pagebook.proofs.Climbs.{list_read}
use Rattle.pagebook.proofs.Parts.{inputs_part, outputs_part, same_fitted}

-- a material is read from its line
pub material_read : (k : ℕ) (m : Material) → material_in (material_line k m) ≡ m
material_read k m = by m.wanted m.bought where
  by : (w b : Bool) → material_in (material_line k (record { wanted = w; bought = b })) ≡ record { wanted = w; bought = b }
  by false false = refl
  by true false = refl
  by false true = refl
  by true true = refl

-- the lists of a number, free or not, are lists that a unit may have
pub lists_within : (l : ℕ) (s : UnitState) → StateWithin l s → Listed l (inputs_of s) × Listed l (outputs_of s)
lists_within l free w = (record { few = omega arith; known = tt }, record { few = omega arith; known = tt })
lists_within l (standing f) w = (w.inputs, w.outputs)
lists_within l (withheld f) w = (w.inputs, w.outputs)

-- such a list takes forty columns
pub length_list : (l : ℕ) (xs : List ℕ) → l ≤ 512 → Listed l xs → length (list_bytes xs) ≡ list_width
length_list l xs small h = length_list_bytes xs h.few (All-weaker (λ x. (1 ≤ x) × (x ≤ l)) (λ x. x < 100000) (λ x b. omega (arith, b.1)) xs h.known)

-- a number's state is read from its line
pub unit_read : (l k : ℕ) (s : UnitState) → l ≤ 512 → k ≤ 512 → StateWithin l s → Rising 0 (inputs_of s) → Rising 0 (outputs_of s) → unit_in l (unit_line k s) ≡ s
unit_read l k s hl hk w rising-in rising-out = by s parts.0 parts.1 where
  parts : (list_in l (inputs_in (unit_line k s)) ≡ inputs_of s) × (list_in l (outputs_in (unit_line k s)) ≡ outputs_of s)
  parts =
      let within = lists_within l s w in
      let a = list_bytes (inputs_of s) in
      let b = list_bytes (outputs_of s) in
      let wide-a = length_list l (inputs_of s) hl within.0 in
      let wide-b = length_list l (outputs_of s) hl within.1 in
      let five = length_column number_width k (fits_five k (omega arith)) in (
        ap (list_in l) (inputs_part (state_letter s) (column number_width k) a b (newline ∷ []) five wide-a wide-b) ∙ list_read l (inputs_of s) hl within.0 rising-in,
        ap (list_in l) (outputs_part (state_letter s) (column number_width k) a b (newline ∷ []) five wide-a wide-b) ∙ list_read l (outputs_of s) hl within.1 rising-out,
      )

  by : (s : UnitState) → list_in l (inputs_in (unit_line k s)) ≡ inputs_of s → list_in l (outputs_in (unit_line k s)) ≡ outputs_of s → unit_in l (unit_line k s) ≡ s
  by free p q = refl
  by (standing f) p q = ap standing (same_fitted p q)
  by (withheld f) p q = ap withheld (same_fitted p q)

-- both lists of a number are strictly ascending
abbrev pub ListsRise : UnitState → Type 0
ListsRise s = Rising 0 (inputs_of s) × Rising 0 (outputs_of s)

-- a meaning that a page can hold: as one whose page can be read, but a number may be withheld
pub record Pageable (m : Meaning) : Type 0 where
  pub well_formed : WellFormed m
  pub some_material : 1 ≤ material_count m
  pub few_materials : material_count m ≤ 512
  pub some_unit : 1 ≤ unit_count m
  pub few_units : unit_count m ≤ 512
  pub rising : AllByRecursion ListsRise m.units

-- a meaning whose page can be read is one of these
pub acceptable_pageable : (m : Meaning) → Acceptable m → Pageable m
acceptable_pageable m ok = record {
  well_formed = ok.well_formed;
  some_material = ok.some_material;
  few_materials = ok.few_materials;
  some_unit = ok.some_unit;
  few_units = ok.few_units;
  rising = All-weaker Settled ListsRise by m.units ok.settled;
} where
  by : (s : UnitState) → Settled s → ListsRise s
  by free h = (tt, tt)
  by (standing f) h = h
  by (withheld f) h = absurd h

-- a number in five columns is read from the bytes that begin with it
read_column : (n : ℕ) (rest : List ℕ) → n ≤ 512 → number_shown (take number_width (column number_width n ++ rest)) ≡ n
read_column n rest few =
    let fits = fits_five n (omega arith) in
    let wide = length_column number_width n fits in
    ap number_shown (take_at (column number_width n) rest number_width wide) ∙ shown_number (column number_width n) n wide (shows_column number_width n fits)

-- what is read for each number from k on is a list, where each of its elements is what is read for its number
read_numbered : {X : Type 0} (read : ℕ → X) (k : ℕ) (xs : List X) → Numbers (λ i x. read i ≡ x) k xs → map read (range_with_len k (length xs)) ≡ xs
read_numbered read k [] ps = refl
read_numbered read k (x ∷ xs) ps = let rest = read_numbered read (k + 1) xs ps.1 in let first = ps.0 in cc

-- a meaning is told by its two lists
same_meaning : {a c : List Material} {b d : List UnitState} → a ≡ c → b ≡ d → ◌≡◌ {A = Meaning} (record { materials = a; units = b }) (record { materials = c; units = d })
same_meaning p q = cc

-- the three parts of a page: its first line
abbrev count_part : Meaning → List ℕ
count_part m = counts_line (material_count m) (unit_count m)

-- the lines of its materials
abbrev material_part : Meaning → List ℕ
material_part m = numbered material_line 1 m.materials

-- and those of its units
abbrev unit_part : Meaning → List ℕ
unit_part m = numbered unit_line 1 m.units

module _ (m : Meaning) (ok : Pageable m) where
  -- state s may be that of unit i
  abbrev MayBe : ℕ → UnitState → Type 0
  MayBe i s = (i ≤ 512) × (StateWithin (material_count m) s × ListsRise s)

  -- the line of material i stands where it should
  abbrev MaterialPlaced : ℕ → Material → Type 0
  MaterialPlaced i x = line_bytes (page_of m) 0 (material i) ≡ material_line i x

  -- so does that of unit i
  abbrev UnitPlaced : ℕ → UnitState → Type 0
  UnitPlaced i s = line_bytes (page_of m) (material_count m) (unit i) ≡ unit_line i s

  -- each unit's state may be its state
  unit_states : Numbers MayBe 1 m.units
  unit_states =
      let l = material_count m in
      let known = numbers_both (λ i s. StateWithin l s) (λ i s. ListsRise s) 1 m.units (numbers_from_all (StateWithin l) 1 m.units ok.well_formed.lists) (numbers_from_all ListsRise 1 m.units ok.rising) in
      numbers_both (λ i s. i ≤ 512) (λ i s. StateWithin l s × ListsRise s) 1 m.units (numbers_up_to 512 1 m.units (omega (arith, ok.few_units))) known

  -- the first line has the length that it should
  counts_long : length (count_part m) ≡ 11
  counts_long = length_counts_line (material_count m) (unit_count m) ok.few_materials ok.few_units

  -- so has each line of a material
  materials_long : Numbers (λ i x. length (material_line i x) ≡ 7) 1 m.materials
  materials_long = numbers_weaker (λ i x. i ≤ 512) (λ i x. length (material_line i x) ≡ 7) length_material_line 1 m.materials (numbers_up_to 512 1 m.materials (omega (arith, ok.few_materials)))

  -- and each of a unit
  units_long : Numbers (λ i s. length (unit_line i s) ≡ 87) 1 m.units
  units_long = numbers_weaker MayBe (λ i s. length (unit_line i s) ≡ 87) (λ i s may. length_unit_line (material_count m) i s ok.few_materials may.0 may.1.0) 1 m.units unit_states

  -- so has the page
  pub length_page : length (page_of m) ≡ page_length (material_count m) (unit_count m)
  length_page =
      let a = counts_long in
      let b = numbered_end material_line 7 (λ k. line_start 0 (material k)) (material_next 0) 1 m.materials (omega arith) materials_long in
      let c = numbered_end unit_line 87 (λ k. line_start 0 (unit k)) (unit_next 0) 1 m.units (omega arith) units_long in
      omega (arith, length-append (count_part m) (material_part m ++ unit_part m), length-append (material_part m) (unit_part m))

  -- the lines of the materials stand where they should, and those of the units follow
  material_places : Numbers MaterialPlaced 1 m.materials × (drop (line_start 0 (material (1 + material_count m))) (page_of m) ≡ unit_part m)
  material_places =
      places_from_numbered material_line 7 (λ k. line_start 0 (material k)) (material_next 0) (page_of m) (unit_part m) 1 m.materials (omega arith) materials_long
      (drop_at (count_part m) (material_part m ++ unit_part m) 11 counts_long)

  -- and these stand where they should
  unit_places : Numbers UnitPlaced 1 m.units
  unit_places =
      let l = material_count m in
      let start : line_start l (unit 1) ≡ line_start 0 (material (1 + l)) = omega arith in
      (places_from_numbered unit_line 87 (λ k. line_start l (unit k)) (unit_next l) (page_of m) [] 1 m.units (omega arith) units_long
      (ap (λ i. drop i (page_of m)) start ∙ (material_places.1 ∙ sym (append-nil (unit_part m))))).0

  -- the first count on the page is that of the materials
  first_read : first_count (page_of m) ≡ material_count m
  first_read =
      let l = material_count m in
      let second = column number_width (unit_count m) ++ newline ∷ [] in
      let rest = material_part m ++ unit_part m in
      ap (λ (bs : List ℕ). number_shown (take number_width bs)) (append_assoc (column number_width l) second rest) ∙ read_column l (second ++ rest) ok.few_materials

  -- and the second that of the units
  second_read : second_count (page_of m) ≡ unit_count m
  second_read =
      let l = material_count m in
      let n = unit_count m in
      let second = column number_width n ++ newline ∷ [] in
      let rest = material_part m ++ unit_part m in
      let behind : drop number_width (page_of m) ≡ column number_width n ++ (newline ∷ [] ++ rest) =
      ap (drop number_width) (append_assoc (column number_width l) second rest)
      ∙ (drop_at (column number_width l) (second ++ rest) number_width (length_column number_width l (fits_five l (omega (arith, ok.few_materials)))) ∙ append_assoc (column number_width n) (newline ∷ []) rest) in
      ap (λ (bs : List ℕ). number_shown (take number_width bs)) behind ∙ read_column n (newline ∷ [] ++ rest) ok.few_units

  -- the page has room for what they say
  page_room : room (page_of m) ≡ true
  page_room =
      let a = first_count (page_of m) in
      let b = second_count (page_of m) in
      let size = length (page_of m) in
      and_from (leb a most) (leb b most && leb (page_length a b) size) (le-leb a most (omega (arith, first_read, ok.few_materials)))
      (and_from (leb b most) (leb (page_length a b) size) (le-leb b most (omega (arith, second_read, ok.few_units))) (le-leb (page_length a b) size (omega (arith, first_read, second_read, length_page))))

  -- so it has as many materials as its meaning
  pub read_materials : materials_on (page_of m) ≡ material_count m
  unfolding materials_on
  read_materials = cond-true (room (page_of m)) (first_count (page_of m)) 0 page_room ∙ first_read

  -- and as many units
  pub read_units : units_on (page_of m) ≡ unit_count m
  unfolding units_on
  read_units = cond-true (room (page_of m)) (second_count (page_of m)) 0 page_room ∙ second_read

  -- its materials are read
  materials_read : map (material_on (page_of m)) (range_with_len 1 (material_count m)) ≡ m.materials
  materials_read =
      read_numbered (material_on (page_of m)) 1 m.materials
      (numbers_weaker MaterialPlaced (λ i x. material_on (page_of m) i ≡ x) (λ i x there. ap material_in there ∙ material_read i x) 1 m.materials material_places.0)

  -- and its units
  units_read : map (unit_on (page_of m) (material_count m)) (range_with_len 1 (unit_count m)) ≡ m.units
  units_read =
      let l = material_count m in
      read_numbered (unit_on (page_of m) l) 1 m.units
      (numbers_weaker (λ i s. UnitPlaced i s × MayBe i s) (λ i s. unit_on (page_of m) l i ≡ s) (λ i s p. ap (unit_in l) p.0 ∙ unit_read l i s ok.few_materials p.1.0 p.1.1.0 p.1.1.1.0 p.1.1.1.1) 1 m.units
      (numbers_both UnitPlaced MayBe 1 m.units unit_places unit_states))

  -- so the meaning is read from its page
  pub page_read : of_page (page_of m) ≡ m
  page_read =
      let p = page_of m in
      let l = material_count m in
      same_meaning (ap (λ j. map (material_on p) (range_with_len 1 j)) read_materials ∙ materials_read)
      (ap (λ j. map (unit_on p j) (range_with_len 1 (units_on p))) read_materials ∙ (ap (λ j. map (unit_on p l) (range_with_len 1 j)) read_units ∙ units_read))

  -- and the page is exactly the page of what it means
  pub page_canonical : page_of m ≡ page_of (of_page (page_of m))
  page_canonical = ap page_of (sym page_read)

-- what opening a page book over the page of an acceptable meaning promises
pub opened_page : (bytes : List ℕ) (m : Meaning) → Acceptable m → bytes ≡ page_of m → (of_page bytes ≡ m) × Canonical bytes
opened_page bytes m ok e =
    let read : of_page bytes ≡ m = ap of_page e ∙ page_read m (acceptable_pageable m ok) in
    (read, e ∙ ap page_of (sym read))
