-- What any bytes mean is well-formed, and the laws of a page book. Assumes nothing.
use Rattle.std.specs.Prelude.{◌≡◌, ℕ, zero, suc, ◌<◌, ◌≤◌, true, cond, ◌&&◌, ◌⊎◌, List, [], ◌∷◌, length, drop, ◌==◌, nat_le, nat_lt, slice_index, refl}
use Rattle.std.proofs.Common.{sym, ap, subst, ◌∙◌, inl, inr, arith}
use Rattle.std.specs.List.{range_with_len, AllByRecursion}
use Rattle.std.proofs.lemmas.List.FromFn.{length-map-range_with_len}
use Rattle.std.proofs.ByRecursion.{All-map, All-from_get_or}
use Rattle.std.proofs.lemmas.Bool.{leb-true, lt-ltb, le-ltb, le-leb, lt-leb, and_from, and_left, and_right, and_parts, cond-true, cond-false, cond_both, cases_Bool, cases_lt}
use Rattle.book.specs.Meaning.{Fitted, free, standing, withheld, material_count, unit_count, Listed, FittedWithin, StateWithin, WellFormed}
use Rattle.book.specs.Climbing.{climbing}
use Rattle.book.specs.Laws.{Laws}
use Rattle.book.specs.Layers.{empty_book}
use Rattle.page.specs.Layout.{number_width, list_fields, most, unit, line_bytes, page_length}
use Rattle.page.specs.Rules.{inputs_in, outputs_in}
use Rattle.pagebook.specs.Reading.{numbers_in, list_in, state_by, unit_in, first_count, second_count, room, materials_on, units_on, material_on, unit_on, of_page}
use Rattle.pagebook.specs.PageBooks.{page_meaning, extent, BytesKept, PageKept}

-- a number above the last and not above the highest goes on the list
pub climbing_on : (last highest x : ℕ) (xs : List ℕ) → last < x → x ≤ highest → climbing last highest (x ∷ xs) ≡ x ∷ climbing x highest xs
climbing_on last highest x xs above below =
    cond-true (nat_lt last x && nat_le x highest) (x ∷ climbing x highest xs) [] (and_from (nat_lt last x) (nat_le x highest) (lt-ltb last x above) (le-leb x highest below))

-- any other ends it
pub climbing_off : (last highest x : ℕ) (xs : List ℕ) → (x ≤ last) ⊎ (highest < x) → climbing last highest (x ∷ xs) ≡ []
climbing_off last highest x xs out = cond-false (nat_lt last x && nat_le x highest) (x ∷ climbing x highest xs) [] (elim out [
  | inl h ↦ and_left (nat_lt last x) (nat_le x highest) (le-ltb last x h)
  | inr h ↦ and_right (nat_lt last x) (nat_le x highest) (lt-leb x highest h)
])

-- what holds of the list that is empty, and of one number more that goes on, holds of every list that climbs
module _ (highest : ℕ) (P : ℕ → List ℕ → List ℕ → Type 0) (none : (last : ℕ) (xs : List ℕ) → P last xs []) (more : (last x : ℕ) (xs ys : List ℕ) → last < x → x ≤ highest → P x xs ys → P last (x ∷ xs) (x ∷ ys)) where
  pub climbing_by : (last : ℕ) (xs : List ℕ) → P last xs (climbing last highest xs)
  climbing_by last [] = none last []
  climbing_by last (x ∷ xs) = elim (cases_lt last x) [
    | inl above ↦ elim (cases_lt highest x) [
      | inl out ↦ stopped (inr out)
      | inr below ↦ subst (P last (x ∷ xs)) (sym (climbing_on last highest x xs above below)) (more last x xs (climbing x highest xs) above below (climbing_by x xs))
    ]
    | inr out ↦ stopped (inl out)
  ] where
    stopped : (x ≤ last) ⊎ (highest < x) → P last (x ∷ xs) (climbing last highest (x ∷ xs))
    stopped out = subst (P last (x ∷ xs)) (sym (climbing_off last highest x xs out)) (none last (x ∷ xs))

-- the list has no more numbers than there are
pub climbing_short : (last highest : ℕ) (xs : List ℕ) → length (climbing last highest xs) ≤ length xs
climbing_short last highest xs = climbing_by highest (λ last xs ys. length ys ≤ length xs) (λ last xs. omega arith) (λ last x xs ys above below h. omega arith) last xs

-- each is from 1 to the highest
pub climbing_known : (last highest : ℕ) (xs : List ℕ) → AllByRecursion (λ x. (1 ≤ x) × (x ≤ highest)) (climbing last highest xs)
climbing_known last highest xs = climbing_by highest (λ last xs ys. AllByRecursion (λ x. (1 ≤ x) × (x ≤ highest)) ys) (λ last xs. tt) (λ last x xs ys above below h. ((omega arith, below), h)) last xs

-- as many numbers are read as there are fields
pub length_numbers : (bytes : List ℕ) (c : ℕ) → length (numbers_in bytes c) ≡ c
length_numbers bytes zero = refl
length_numbers bytes (suc c) = ap suc (length_numbers (drop number_width bytes) c)

-- a list in the fields of a list is one that a unit may have
pub list_known : (l : ℕ) (bytes : List ℕ) → Listed l (list_in l bytes)
unfolding list_in
list_known l bytes =
    let all = numbers_in bytes list_fields in
    record { few = omega (arith, climbing_short 0 l all, length_numbers bytes list_fields); known = climbing_known 0 l all }

-- where there is room for the counts of the first line, they are within bounds, and a page with such counts could stand in the bytes
room_parts : (bytes : List ℕ) → room bytes ≡ true → (first_count bytes ≤ most) × (second_count bytes ≤ most) × (page_length (first_count bytes) (second_count bytes) ≤ length bytes)
room_parts bytes e =
    let a = first_count bytes in
    let b = second_count bytes in
    let size = page_length a b in
    let one = and_parts (nat_le a most) (nat_le b most && nat_le size (length bytes)) e in
    let two = and_parts (nat_le b most) (nat_le size (length bytes)) one.1 in
    (leb-true a most one.0, leb-true b most two.0, leb-true size (length bytes) two.1)

-- whatever the bytes are, they have at most as many materials as a page
pub few_materials : (bytes : List ℕ) → materials_on bytes ≤ 512
unfolding materials_on
few_materials bytes = cond_both (room bytes) (first_count bytes) 0 (λ k. k ≤ most) (λ e. (room_parts bytes e).0) (λ e. omega arith)

-- at most as many units
pub few_units : (bytes : List ℕ) → units_on bytes ≤ 512
unfolding units_on
few_units bytes = cond_both (room bytes) (second_count bytes) 0 (λ k. k ≤ most) (λ e. (room_parts bytes e).1) (λ e. omega arith)

-- and where they have any of either, they are as long as the page that they have
pub room_there : (bytes : List ℕ) → (0 < materials_on bytes) ⊎ (0 < units_on bytes) → page_length (materials_on bytes) (units_on bytes) ≤ length bytes
unfolding materials_on units_on
room_there bytes some = elim (cases_Bool (room bytes)) [
  | inl e ↦
      let l = cond-true (room bytes) (first_count bytes) 0 e in
      let n = cond-true (room bytes) (second_count bytes) 0 e in
      omega (arith, (room_parts bytes e).2)
  | inr e ↦
      let l = cond-false (room bytes) (first_count bytes) 0 e in
      let n = cond-false (room bytes) (second_count bytes) 0 e in
      absurd (elim some [ inl h ↦ omega arith | inr h ↦ omega arith ])
]

-- a state that is told by a letter has the lists that it is given, or none
state_within : (l letter : ℕ) (f : Fitted) → FittedWithin l f → StateWithin l (state_by letter f)
state_within l letter f w =
    cond_both (letter == 83) (standing f) (cond (letter == 87) (withheld f) free) (StateWithin l) (λ e. w)
    (λ e. cond_both (letter == 87) (withheld f) free (StateWithin l) (λ e. w) (λ e. tt))

-- so what is read from any line of a unit has lists that it may have
pub unit_within : (l : ℕ) (line : List ℕ) → StateWithin l (unit_in l line)
unit_within l line = state_within l (slice_index line 0) _ (record { inputs = list_known l (inputs_in line); outputs = list_known l (outputs_in line) })

-- there are as many materials as are on the page
pub count_materials : (bytes : List ℕ) → material_count (of_page bytes) ≡ materials_on bytes
count_materials bytes = length-map-range_with_len (material_on bytes) 1 (materials_on bytes)

-- and as many units
pub count_units : (bytes : List ℕ) → unit_count (of_page bytes) ≡ units_on bytes
count_units bytes = length-map-range_with_len (unit_on bytes (materials_on bytes)) 1 (units_on bytes)

-- whatever the bytes are, what they mean is well-formed
pub page_well_formed : (bytes : List ℕ) → WellFormed (of_page bytes)
page_well_formed bytes =
    let l = materials_on bytes in
    let numbers = range_with_len 1 (units_on bytes) in
    let each : AllByRecursion (λ k. StateWithin l (unit_on bytes l k)) numbers = All-from_get_or (λ k. StateWithin l (unit_on bytes l k)) numbers 0 (λ i h. unit_within l (line_bytes bytes l (unit (slice_index numbers i)))) in
    record {
      few_materials = omega (arith, count_materials bytes, few_materials bytes);
      few_units = omega (arith, count_units bytes, few_units bytes);
      lists = subst (λ j. AllByRecursion (StateWithin j) (of_page bytes).units) (sym (count_materials bytes)) (All-map (StateWithin l) (unit_on bytes l) numbers each);
    }

-- the empty book is well-formed
empty_well_formed : WellFormed empty_book
empty_well_formed = record { few_materials = omega arith; few_units = omega arith; lists = tt }

-- bytes that did not change are kept
pub bytes_keep : (bytes : List ℕ) → BytesKept bytes bytes
bytes_keep bytes = record { size = refl; materials = refl; units = refl; beyond = refl; canonical = λ e. e }

-- where the counts are kept, the page takes as many bytes
pub same_extent : (before after : List ℕ) → materials_on after ≡ materials_on before → units_on after ≡ units_on before → extent after ≡ extent before
same_extent before after l n = ap (λ j. page_length j (units_on after)) l ∙ ap (page_length (materials_on before)) n

-- bytes that are kept by one call and by the next are kept
pub bytes_chain : (a b c : List ℕ) → BytesKept a b → BytesKept b c → BytesKept a c
bytes_chain a b c v w = record {
  size = w.size ∙ v.size;
  materials = w.materials ∙ v.materials;
  units = w.units ∙ v.units;
  beyond = subst (λ k. drop k c ≡ drop k b) (same_extent a b v.materials v.units) w.beyond ∙ v.beyond;
  canonical = λ e. w.canonical (v.canonical e);
}

-- what every book owes, of a page book
pub page_laws : Laws page_meaning PageKept
page_laws = record {
  well_formed = λ b. cond_both b.«open» (of_page b.bytes.now) empty_book WellFormed (λ e. page_well_formed b.bytes.now) (λ e. empty_well_formed);
  keeps = λ b. record { there = refl; same_open = refl; bytes = bytes_keep b.bytes.now; shut = λ e. refl };
  chains = λ a b c v w. record {
    there = w.there ∙ v.there;
    same_open = w.same_open ∙ v.same_open;
    bytes = bytes_chain a.bytes.now b.bytes.now c.bytes.now v.bytes w.bytes;
    shut = λ e. w.shut (v.same_open ∙ e) ∙ v.shut e;
  };
}
