-- A unit or a material that a page book has, and what the bytes say of it. Assumes nothing.
use Rattle.std.proofs.Common.{◌≡◌, ℕ, ◌+◌, ◌-◌, ◌≤◌, Bool, true, false, cond, eqb, List, length, get_or, drop, Some, Ok, Err, Option, sym, refl, ap, ◌∙◌, arith}
use Rattle.std.proofs.lemmas.List.FromFn.{get_or-map-range_with_len}
use Rattle.std.proofs.lemmas.List.{length-take-le, length-drop}
use Rattle.std.proofs.lemmas.Bool.{and_parts}
use Rattle.book.specs.declared.Refusal.TheVariants.{NotWithheld}
use Rattle.book.specs.declared.books.State.{State}
use Rattle.book.specs.declared.books.State.TheVariants.{Free, Standing, Withheld}
use Rattle.book.specs.Meaning.{Fitted, UnitState, free, standing, withheld, material_count, unit_count}
use Rattle.book.specs.Declined.{inside, state_at, is_withheld, withheld_at}
use Rattle.book.specs.Asked.{where_inside}
use Rattle.page.specs.Layout.{Line, material, unit, line_length, line_start, line_bytes, Whole}
use Rattle.pagebook.specs.declared.lines.UnitLine.{UnitLine}
use Rattle.pagebook.specs.Reading.{state_by, unit_in, materials_on, units_on, unit_on, of_page}
use Rattle.pagebook.specs.PageBooks.{meaning_of}
use Rattle.pagebook.specs.PageLaws.{few_materials, count_materials, count_units}
use Rattle.pagebook.specs.Places.{kind_of, line_of, lists_in}
use Rattle.pagebook.specs.Writes.{withheld_line}
use Rattle.pagebook.proofs.Answering.{inside_parts, found_inside, unit_there}

-- no number is inside a count of none
pub none_inside : (k : ℕ) → inside k 0 ≡ true → ⊥
none_inside k e = omega (arith, inside_parts k 0 e)

-- a unit that bytes have is one of theirs
pub unit_inside : (bytes : List ℕ) (k : ℕ) → inside k (unit_count (of_page bytes)) ≡ true → (1 ≤ k) × (k ≤ units_on bytes)
unit_inside bytes k e = let h = inside_parts k (unit_count (of_page bytes)) e in (h.0, omega (arith, h.1, count_units bytes))

-- and so is a material
pub material_inside : (bytes : List ℕ) (k : ℕ) → inside k (material_count (of_page bytes)) ≡ true → (1 ≤ k) × (k ≤ materials_on bytes)
material_inside bytes k e = let h = inside_parts k (material_count (of_page bytes)) e in (h.0, omega (arith, h.1, count_materials bytes))

-- no page book has more materials than a page
pub few_there : (is_open : Bool) (bytes : List ℕ) → material_count (meaning_of is_open bytes) ≤ 512
few_there false bytes = omega arith
few_there true bytes = omega (arith, count_materials bytes, few_materials bytes)

-- a line that is whole has all its bytes
pub length_line : (bytes : List ℕ) (l : ℕ) (x : Line) → Whole bytes l x → length (line_bytes bytes l x) ≡ line_length x
length_line bytes l x whole = length-take-le (line_length x) (drop (line_start l x) bytes) (omega (arith, length-drop (line_start l x) bytes))

-- the state of a unit is what its line means
pub state_in : (bytes : List ℕ) (k : ℕ) → 1 ≤ k → k ≤ units_on bytes → state_at (of_page bytes) k ≡ unit_in (materials_on bytes) (line_bytes bytes (materials_on bytes) (unit k))
state_in bytes k some known = get_or-map-range_with_len (unit_on bytes (materials_on bytes)) 1 (units_on bytes) (k - 1) k free (omega arith) (omega arith)

-- the state that is told by its kind and by lists
abbrev pub in_state : State → Fitted → UnitState
in_state Free f = free
in_state Standing f = standing f
in_state Withheld f = withheld f

-- what a letter and lists tell is told by the kind that the letter says
by_kind : (letter : ℕ) (f : Fitted) → state_by letter f ≡ in_state (kind_of (state_by letter f)) f
by_kind letter f = by (eqb letter 83) (eqb letter 87) where
  by : (s w : Bool) → cond s (standing f) (cond w (withheld f) free) ≡ in_state (kind_of (cond s (standing f) (cond w (withheld f) free))) f
  by true w = refl
  by false true = refl
  by false false = refl

-- a unit of a page book, with its line: the line is whole, and it tells the state
pub record UnitAt (is_open : Bool) (bytes : List ℕ) (k : ℕ) (line : UnitLine) : Type 0 where
  pub there : inside k (unit_count (meaning_of is_open bytes)) ≡ true
  pub place : line ≡ line_of (meaning_of is_open bytes) k
  pub whole : line.start + 87 ≤ length bytes
  pub state : state_at (meaning_of is_open bytes) k ≡ in_state line.state (lists_in bytes line)

-- a unit that the book has is one of these, with the line that it should have
unit_of : (is_open : Bool) (bytes : List ℕ) (k : ℕ) (line : UnitLine) → inside k (unit_count (meaning_of is_open bytes)) ≡ true → line ≡ line_of (meaning_of is_open bytes) k → UnitAt is_open bytes k line
unit_of is_open bytes k line there place =
    let m = meaning_of is_open bytes in
    let found = line_of m k in
    let at = unit_there is_open bytes k there in
    record {
      there = there;
      place = place;
      whole = omega (arith, at.whole, ap (λ (x : UnitLine). x.start) place);
      state = at.told
          ∙ (by_kind (get_or bytes found.start 0) (lists_in bytes found)
          ∙ (ap (λ s. in_state (kind_of s) (lists_in bytes found)) (sym at.told) ∙ ap (λ (x : UnitLine). in_state x.state (lists_in bytes x)) (sym place)));
    }

-- and so is one whose line a search found; r is what the search answered
pub unit_at : (is_open : Bool) (bytes : List ℕ) (k : ℕ) (line : UnitLine) (r : Option UnitLine) → r ≡ where_inside k (unit_count (meaning_of is_open bytes)) (line_of (meaning_of is_open bytes) k) → r ≡ Some line → UnitAt is_open bytes k line
unit_at is_open bytes k line r searched is =
    let m = meaning_of is_open bytes in
    let found = found_inside k (unit_count m) (line_of m k) line (sym is ∙ searched) in
    unit_of is_open bytes k line found.0 found.1

-- a material whose line a search found
pub material_at_line : (is_open : Bool) (bytes : List ℕ) (k start : ℕ) (r : Option ℕ) → r ≡ where_inside k (material_count (meaning_of is_open bytes)) (line_start 0 (material k)) → r ≡ Some start → (inside k (material_count (meaning_of is_open bytes)) ≡ true) × (start ≡ line_start 0 (material k))
material_at_line is_open bytes k start r searched is = found_inside k (material_count (meaning_of is_open bytes)) (line_start 0 (material k)) start (sym is ∙ searched)

-- a withheld unit of a page book, with its line
pub record WithheldAt (is_open : Bool) (bytes : List ℕ) (k : ℕ) (line : UnitLine) : Type 0 where
  pub at : UnitAt is_open bytes k line
  pub test : withheld_at (meaning_of is_open bytes) k ≡ true
  pub kind : line.state ≡ Withheld

-- such is one whose line a search found
pub withheld_unit_at : (is_open : Bool) (bytes : List ℕ) (k : ℕ) (line : UnitLine) → Ok line ≡ withheld_line (meaning_of is_open bytes) k → WithheldAt is_open bytes k line
withheld_unit_at is_open bytes k line searched =
    let m = meaning_of is_open bytes in
    let found = by (withheld_at m k) (line_of m k) line searched in
    let both = and_parts (inside k (unit_count m)) (is_withheld (state_at m k)) found.0 in
    record { at = unit_of is_open bytes k line both.0 found.1; test = found.0; kind = ap (λ (x : UnitLine). x.state) found.1 ∙ kind (state_at m k) both.1 }
  where
    by : (test : Bool) (x y : UnitLine) → Ok y ≡ cond test (Ok x) (Err NotWithheld) → (test ≡ true) × (y ≡ x)
    by true x y e = (refl, cc)
    by false x y e = cc

    kind : (s : UnitState) → is_withheld s ≡ true → kind_of s ≡ Withheld
    kind free e = cc
    kind (standing f) e = cc
    kind (withheld f) e = refl
