-- What a page book answers, by the letters and the lists of the lines that the question is about. Assumes nothing.
use Rattle.std.proofs.Common.{◌≡◌, ℕ, ◌+◌, ◌-◌, ◌<◌, ◌≤◌, Bool, true, false, cond, ◌&&◌, eqb, leb, List, [], ◌∷◌, length, get_or, Some, None, Option, MatchOption, sym, refl, ap, ◌∙◌, subst, inl, inr, arith}
use Rattle.std.proofs.lemmas.List.FromFn.{get_or-map-range_with_len}
use Rattle.std.proofs.lemmas.Bool.{leb-true, lt-leb, and_parts, and_right, cond-true, cond-false}
use Rattle.book.specs.Meaning.{UnitState, Fitted, free, standing, withheld, material_count, unit_count}
use Rattle.book.specs.Declined.{inside, state_at, is_standing}
use Rattle.book.specs.Asked.{where_inside, plain, material_at, told_of, fitted_at}
use Rattle.page.specs.Layout.{most, counts, material, unit, line_length, line_start, line_bytes, page_length}
use Rattle.book.specs.declared.books.Class.{Class}
use Rattle.book.specs.declared.books.State.{State}
use Rattle.pagebook.specs.declared.lines.UnitLine.{UnitLine}
use Rattle.pagebook.specs.Reading.{material_in, state_by, unit_in, first_count, second_count, room, materials_on, units_on, material_on, unit_on, of_page}
use Rattle.pagebook.specs.PageBooks.{meaning_of}
use Rattle.pagebook.specs.PageLaws.{room_there, count_materials, count_units}
use Rattle.pagebook.specs.Places.{class_of, kind_of, line_of, lists_in}
use Rattle.pagebook.proofs.Parts.{first_of_part}

-- the test of the two numbers that were read from the first line is the test of the room for them
pub room_test : (bytes : List ℕ) (l n : ℕ) (test : Bool) → l ≡ first_count bytes → n ≡ second_count bytes → test ≡ (leb l most && (leb n most && leb (page_length l n) (length bytes))) → room bytes ≡ test
room_test bytes l n test p q e =
    sym (e ∙ (ap (λ i. leb i most && (leb n most && leb (page_length i n) (length bytes))) p ∙ ap (λ j. leb (first_count bytes) most && (leb j most && leb (page_length (first_count bytes) j) (length bytes))) q))

-- where a page with the counts of the first line could stand in the bytes, they are the counts
pub with_room : (bytes : List ℕ) → room bytes ≡ true → (first_count bytes ≡ materials_on bytes) × (second_count bytes ≡ units_on bytes)
unfolding materials_on units_on
with_room bytes e = (sym (cond-true (room bytes) (first_count bytes) 0 e), sym (cond-true (room bytes) (second_count bytes) 0 e))

-- where none could, there is none of either
pub without_room : (bytes : List ℕ) → room bytes ≡ false → (0 ≡ materials_on bytes) × (0 ≡ units_on bytes)
unfolding materials_on units_on
without_room bytes e = (sym (cond-false (room bytes) (first_count bytes) 0 e), sym (cond-false (room bytes) (second_count bytes) 0 e))

-- in fewer bytes than the first line has, none could
pub too_short : (bytes : List ℕ) → length bytes < line_length counts → room bytes ≡ false
too_short bytes h =
    let size = page_length (first_count bytes) (second_count bytes) in
    and_right (leb (first_count bytes) most) (leb (second_count bytes) most && leb size (length bytes)) (and_right (leb (second_count bytes) most) (leb size (length bytes)) (lt-leb size (length bytes) (omega arith)))

-- a number that is inside a count is from 1 to the count
pub inside_parts : (k count : ℕ) → inside k count ≡ true → (1 ≤ k) × (k ≤ count)
inside_parts k count e = let both = and_parts (leb 1 k) (leb k count) e in (leb-true 1 k both.0, leb-true k count both.1)

-- what is found for a number is found inside the count
pub found_inside : {X : Type 0} (k count : ℕ) (x y : X) → Some y ≡ where_inside k count x → (inside k count ≡ true) × (y ≡ x)
found_inside k count x y e = by (inside k count) e where
  by : (t : Bool) → Some y ≡ cond t (Some x) None → (t ≡ true) × (y ≡ x)
  by true e = (refl, cc)
  by false e = cc

-- a material of the book is told by the letter of its line, which lies within the bytes
pub record MaterialThere (is_open : Bool) (bytes : List ℕ) (k : ℕ) : Type 0 where
  pub told : material_at (meaning_of is_open bytes) k ≡ material_in (get_or bytes (line_start 0 (material k)) 0 ∷ [])
  pub whole : line_start 0 (material k) + line_length (material k) ≤ length bytes

pub material_there : (is_open : Bool) (bytes : List ℕ) (k : ℕ) → inside k (material_count (meaning_of is_open bytes)) ≡ true → MaterialThere is_open bytes k
material_there true bytes k e =
    let within = inside_parts k (material_count (of_page bytes)) e in
    let counted = count_materials bytes in
    let start = line_start 0 (material k) in
    record {
      told = get_or-map-range_with_len (material_on bytes) 1 (materials_on bytes) (k - 1) k plain (omega arith) (omega arith) ∙ ap (λ letter. material_in (letter ∷ [])) (first_of_part bytes start (line_length (material k)) (omega arith));
      whole = omega (arith, room_there bytes (inl (omega arith)));
    }
material_there false bytes k e = absurd (omega (arith, inside_parts k 0 e))

-- a unit number of the book is told by the letter of its line and by the lists there, and the line lies within the bytes
pub record UnitThere (is_open : Bool) (bytes : List ℕ) (k : ℕ) : Type 0 where
  pub told : state_at (meaning_of is_open bytes) k ≡ state_by (get_or bytes (line_of (meaning_of is_open bytes) k).start 0) (lists_in bytes (line_of (meaning_of is_open bytes) k))
  pub whole : (line_of (meaning_of is_open bytes) k).start + line_length (unit k) ≤ length bytes

pub unit_there : (is_open : Bool) (bytes : List ℕ) (k : ℕ) → inside k (unit_count (meaning_of is_open bytes)) ≡ true → UnitThere is_open bytes k
unit_there true bytes k e =
    let within = inside_parts k (unit_count (of_page bytes)) e in
    let counted = count_units bytes in
    let materials = count_materials bytes in
    let line = line_of (of_page bytes) k in
    record {
      told = get_or-map-range_with_len (unit_on bytes (materials_on bytes)) 1 (units_on bytes) (k - 1) k free (omega arith) (omega arith)
          ∙ (ap (λ l. unit_in l (line_bytes bytes l (unit k))) (sym materials) ∙ ap (λ letter. state_by letter (lists_in bytes line)) (first_of_part bytes line.start (line_length (unit k)) (omega arith)));
      whole = omega (arith, room_there bytes (inr (omega arith)));
    }
unit_there false bytes k e = absurd (omega (arith, inside_parts k 0 e))

-- a line is told by its three parts
same_line : (i i' : ℕ) (s s' : State) (l l' : ℕ) → i ≡ i' → s ≡ s' → l ≡ l' → ◌≡◌ {A = UnitLine} (record { start = i; state = s; materials = l }) (record { start = i'; state = s'; materials = l' })
same_line i i' s s' l l' p q r = cc

-- a material whose line was found has the class that the letter there tells
pub class_answer : (is_open : Bool) (bytes : List ℕ) (k start : ℕ) (c : Class)
    → Some start ≡ where_inside k (material_count (meaning_of is_open bytes)) (line_start 0 (material k))
    → c ≡ class_of (material_in (get_or bytes start 0 ∷ []))
    → Some c ≡ where_inside k (material_count (meaning_of is_open bytes)) (class_of (material_at (meaning_of is_open bytes) k))
class_answer is_open bytes k start c e read =
    let m = meaning_of is_open bytes in
    let found = found_inside k (material_count m) (line_start 0 (material k)) start e in
    let there = material_there is_open bytes k found.0 in
    let told : material_at m k ≡ material_in (get_or bytes start 0 ∷ []) = there.told ∙ ap (λ i. material_in (get_or bytes i 0 ∷ [])) (sym found.1) in
    ap Some (read ∙ sym (ap class_of told)) ∙ sym (cond-true (inside k (material_count m)) (Some (class_of (material_at m k))) None found.0)

-- a unit number that was found inside the book has its line within the bytes
pub line_found : (is_open : Bool) (bytes : List ℕ) (k start l n : ℕ)
    → true ≡ inside k n
    → n ≡ unit_count (meaning_of is_open bytes)
    → start ≡ line_start l (unit k)
    → l ≡ material_count (meaning_of is_open bytes)
    → (inside k (unit_count (meaning_of is_open bytes)) ≡ true) × (start + line_length (unit k) ≤ length bytes)
line_found is_open bytes k start l n test known begins count =
    let within : inside k (unit_count (meaning_of is_open bytes)) ≡ true = sym (test ∙ ap (inside k) known) in
    (within, omega (arith, (unit_there is_open bytes k within).whole, begins ∙ ap (λ i. line_start i (unit k)) count))

-- a unit number inside the book has the line that begins at its place and has the state that the letter there tells
pub line_answer : (is_open : Bool) (bytes : List ℕ) (k start l : ℕ) (s : State)
    → inside k (unit_count (meaning_of is_open bytes)) ≡ true
    → start ≡ line_start l (unit k)
    → l ≡ material_count (meaning_of is_open bytes)
    → ((f : Fitted) → s ≡ kind_of (state_by (get_or bytes start 0) f))
    → Some (record { start = start; state = s; materials = l }) ≡ where_inside k (unit_count (meaning_of is_open bytes)) (line_of (meaning_of is_open bytes) k)
line_answer is_open bytes k start l s within begins count told =
    let m = meaning_of is_open bytes in
    let line = line_of m k in
    let there = unit_there is_open bytes k within in
    let place : start ≡ line.start = begins ∙ ap (λ i. line_start i (unit k)) count in
    let state : s ≡ line.state = told (lists_in bytes line) ∙ (ap (λ i. kind_of (state_by (get_or bytes i 0) (lists_in bytes line))) place ∙ sym (ap kind_of there.told)) in
    ap Some (same_line start line.start s line.state l (material_count m) place state count) ∙ sym (cond-true (inside k (unit_count m)) (Some line) None within)

-- what stands by a letter stands with the lists that are read with it
stands_with : (letter : ℕ) (f g : Fitted) → standing g ≡ state_by letter f → g ≡ f
stands_with letter f g e = by (eqb letter 83) (eqb letter 87) e where
  by : (s w : Bool) → standing g ≡ cond s (standing f) (cond w (withheld f) free) → g ≡ f
  by true w e = cc
  by false true e = cc
  by false false e = cc

-- where a standing unit is looked for, what was found tells its lists, and of any other number there is nothing to tell
pub standing_answer : (is_open : Bool) (bytes : List ℕ) (k : ℕ) (r : Option UnitLine)
    → r ≡ cond (inside k (unit_count (meaning_of is_open bytes)) && is_standing (state_at (meaning_of is_open bytes) k)) (Some (line_of (meaning_of is_open bytes) k)) None
    → MatchOption r (fitted_at k (meaning_of is_open bytes) ≡ None) (λ line. fitted_at k (meaning_of is_open bytes) ≡ Some (lists_in bytes line))
standing_answer is_open bytes k r e =
    let m = meaning_of is_open bytes in
    let line = line_of m k in
    subst (λ x. MatchOption x (fitted_at k m ≡ None) (λ y. fitted_at k m ≡ Some (lists_in bytes y))) (sym e)
    (by (inside k (unit_count m)) (state_at m k) line (λ t. (unit_there is_open bytes k t).told))
  where
    by : (t : Bool) (s : UnitState) (line : UnitLine) → (t ≡ true → s ≡ state_by (get_or bytes line.start 0) (lists_in bytes line)) → MatchOption (cond (t && is_standing s) (Some line) None) (cond t (told_of s) None ≡ None) (λ y. cond t (told_of s) None ≡ Some (lists_in bytes y))
    by false s line h = refl
    by true free line h = refl
    by true (withheld g) line h = refl
    by true (standing g) line h = ap Some (stands_with (get_or bytes line.start 0) (lists_in bytes line) g (h refl))
