-- A unit's line with another letter and other lists: how long it is, what it means, and what it is on a page. Assumes nothing.
use Rattle.std.proofs.Common.{◌≡◌, ℕ, ◌≤◌, true, ◌&&◌, ltb, leb, List, [], ◌∷◌, ◌++◌, length, take, drop, refl, ap, ◌∙◌, arith}
use Rattle.std.specs.List.{AllByRecursion}
use Rattle.std.proofs.ByRecursion.{All-weaker}
use Rattle.std.proofs.lemmas.List.{length-take-le, length-drop}
use Rattle.std.proofs.lemmas.Bool.{and_parts, leb-true, ltb-true}
use Rattle.book.specs.Meaning.{Fitted, UnitState, free, standing, withheld, Listed, FittedWithin, StateWithin}
use Rattle.book.specs.Declined.{climbs, fitting}
use Rattle.columns.specs.Columns.{column}
use Rattle.columns.proofs.Laws.{fits_five, length_column}
use Rattle.page.specs.Format.{newline, state_letter, inputs_of, outputs_of, list_bytes, unit_line}
use Rattle.page.specs.Rules.{inputs_in, outputs_in}
use Rattle.page.specs.Checked.{Rising}
use Rattle.pagebook.specs.Reading.{list_in, state_by, unit_in}
use Rattle.pagebook.specs.Writes.{refitted}
use Rattle.pagebook.proofs.Climbs.{list_read}
use Rattle.pagebook.proofs.Parts.{length_parts, number_part, inputs_part, outputs_part, behind_outputs, same_fitted}
use Rattle.pagebook.proofs.Read.{lists_within, length_list}

-- the lists of a state
abbrev pub lists_of : UnitState → Fitted
lists_of s = record { inputs = inputs_of s; outputs = outputs_of s }

-- a state that the line of a unit may hold, on a page with l materials
pub record Writable (l : ℕ) (s : UnitState) : Type 0 where
  pub within : StateWithin l s
  pub rising_inputs : Rising 0 (inputs_of s)
  pub rising_outputs : Rising 0 (outputs_of s)

-- a state is told by its letter and its lists
state_again : (s : UnitState) (a b : List ℕ) → a ≡ inputs_of s → b ≡ outputs_of s → state_by (state_letter s) (record { inputs = a; outputs = b }) ≡ s
state_again free a b p q = refl
state_again (standing f) a b p q = ap standing (same_fitted p q)
state_again (withheld f) a b p q = ap withheld (same_fitted p q)

-- the line of a unit, of which letter and lists are those of a state
module _ (l : ℕ) (s : UnitState) (old : List ℕ) (few : l ≤ 512) (fits : Writable l s) (long : length old ≡ 87) where
  abbrev new : List ℕ
  new = refitted (state_letter s) (lists_of s) old

  abbrev old_number : List ℕ
  old_number = take 5 (drop 1 old)

  five : length old_number ≡ 5
  five = length-take-le 5 (drop 1 old) (omega (arith, length-drop 1 old))

  wide_in : length (list_bytes (inputs_of s)) ≡ 40
  wide_in = length_list l (inputs_of s) few (lists_within l s fits.within).0

  wide_out : length (list_bytes (outputs_of s)) ≡ 40
  wide_out = length_list l (outputs_of s) few (lists_within l s fits.within).1

  -- it is as long as before
  pub length_refitted : length new ≡ 87
  length_refitted =
      length_parts (state_letter s) old_number (list_bytes (inputs_of s)) (list_bytes (outputs_of s)) (drop 86 old) five wide_in wide_out
      ∙ omega (arith, length-drop 86 old)

  -- it means that state
  pub refitted_means : unit_in l new ≡ s
  refitted_means =
      let a = list_bytes (inputs_of s) in
      let b = list_bytes (outputs_of s) in
      let both = lists_within l s fits.within in
      let inputs : list_in l (inputs_in new) ≡ inputs_of s =
      ap (list_in l) (inputs_part (state_letter s) old_number a b (drop 86 old) five wide_in wide_out) ∙ list_read l (inputs_of s) few both.0 fits.rising_inputs in
      let outputs : list_in l (outputs_in new) ≡ outputs_of s =
      ap (list_in l) (outputs_part (state_letter s) old_number a b (drop 86 old) five wide_in wide_out) ∙ list_read l (outputs_of s) few both.1 fits.rising_outputs in
      state_again s (list_in l (inputs_in new)) (list_in l (outputs_in new)) inputs outputs

  -- and where it was the line for a state, it is the line for this one
  pub refitted_line : (k : ℕ) (t : UnitState) → k ≤ 512 → StateWithin l t → old ≡ unit_line k t → new ≡ unit_line k s
  refitted_line k t known within is =
      let both = lists_within l t within in
      let a = list_bytes (inputs_of t) in
      let b = list_bytes (outputs_of t) in
      let wide-a = length_list l (inputs_of t) few both.0 in
      let wide-b = length_list l (outputs_of t) few both.1 in
      let five-k = length_column 5 k (fits_five k (omega arith)) in
      let number : take 5 (drop 1 old) ≡ column 5 k = ap (λ (u : List ℕ). take 5 (drop 1 u)) is ∙ number_part (state_letter t) (column 5 k) a b (newline ∷ []) five-k wide-a wide-b in
      let end : drop 86 old ≡ newline ∷ [] = ap (drop 86) is ∙ behind_outputs (state_letter t) (column 5 k) a b (newline ∷ []) five-k wide-a wide-b in
      let parts : List ℕ → List ℕ → List ℕ = λ u v. state_letter s ∷ (u ++ (list_bytes (inputs_of s) ++ (list_bytes (outputs_of s) ++ v))) in
      ap (λ (u : List ℕ). parts u (drop 86 old)) number ∙ ap (parts (column 5 k)) end

-- a list that climbs names materials, each above the one before
climbs_known : (last l : ℕ) (xs : List ℕ) → climbs last l xs ≡ true → AllByRecursion (λ x. (1 ≤ x) × (x ≤ l)) xs × Rising last xs
climbs_known last l [] e = (tt, tt)
climbs_known last l (x ∷ xs) e =
    let first = and_parts (ltb last x) (leb x l && climbs x l xs) e in
    let second = and_parts (leb x l) (climbs x l xs) first.1 in
    let above = ltb-true last x first.0 in
    let rest = climbs_known x l xs second.1 in
    (((omega arith, leb-true x l second.0), rest.0), (above, rest.1))

-- so a list that a unit may be fitted with is such a list, and rises
fitting_known : (l : ℕ) (xs : List ℕ) → fitting l xs ≡ true → Listed l xs × Rising 0 xs
fitting_known l xs e =
    let both = and_parts (leb (length xs) 8) (climbs 0 l xs) e in
    let known = climbs_known 0 l xs both.1 in
    (record { few = leb-true (length xs) 8 both.0; known = known.0 }, known.1)

-- where there are no more materials than on a page, it is one for a page
listed_most : (l : ℕ) (xs : List ℕ) → l ≤ 512 → Listed l xs → Listed 512 xs
listed_most l xs few h = record { few = h.few; known = All-weaker (λ x. (1 ≤ x) × (x ≤ l)) (λ x. (1 ≤ x) × (x ≤ 512)) (λ x b. (b.0, omega (arith, b.1))) xs h.known }

pub fitting_most : (l : ℕ) (f : Fitted) → l ≤ 512 → fitting l f.inputs ≡ true → fitting l f.outputs ≡ true → FittedWithin 512 f
fitting_most l f few inputs outputs = record {
  inputs = listed_most l f.inputs few (fitting_known l f.inputs inputs).0;
  outputs = listed_most l f.outputs few (fitting_known l f.outputs outputs).0;
}

-- a unit that stands with two such lists can be written, and so can a free number
pub fitting_writable : (l : ℕ) (f : Fitted) → fitting l f.inputs ≡ true → fitting l f.outputs ≡ true → Writable l (standing f)
fitting_writable l f inputs outputs =
    let i = fitting_known l f.inputs inputs in
    let o = fitting_known l f.outputs outputs in
    record { within = record { inputs = i.0; outputs = o.0 }; rising_inputs = i.1; rising_outputs = o.1 }

pub free_writable : (l : ℕ) → Writable l free
free_writable l = record { within = tt; rising_inputs = tt; rising_outputs = tt }
