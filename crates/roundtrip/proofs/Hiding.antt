-- Hiding one unit number after another. Assumes nothing.
use Rattle.std.proofs.Common.{◌≡◌, ℕ, zero, suc, ◌+◌, ◌-◌, ◌<◌, ◌≤◌, false, List, [], ◌∷◌, ◌++◌, map, length, get_or, take, drop, set, Ok, Err, Result, sym, refl, ap, ◌∙◌, arith}
use Rattle.std.proofs.lemmas.List.{set-get_or, take_all, drop_all, append-nil}
use Rattle.std.proofs.lemmas.Grind.{common_steps}
use Rattle.book.specs.declared.Refusal.{Refusal}
use Rattle.book.specs.Meaning.{UnitState, free, standing, withheld, Meaning, unit_count}
use Rattle.book.specs.Declined.{is_standing, state_at}
use Rattle.book.specs.Edits.{hidden_state, hide_edit, Edited}
use Rattle.roundtrip.specs.ThereAndBack.{all_hidden}

-- the first i numbers hidden
abbrev pub first_hidden : ℕ → List UnitState → List UnitState
first_hidden i us = map hidden_state (take i us) ++ drop i us

abbrev pub hidden_to : ℕ → Meaning → Meaning
hidden_to i m = record { materials = m.materials; units = first_hidden i m.units }

length_hidden : (i : ℕ) (us : List UnitState) → length (first_hidden i us) ≡ length us
length_hidden zero us = refl
length_hidden (suc i) [] = refl
length_hidden (suc i) (x ∷ xs) = ap suc (length_hidden i xs)

-- one number more
hide_next : (i : ℕ) (us : List UnitState) → i < length us → set (first_hidden i us) i (hidden_state (get_or (first_hidden i us) i free)) ≡ first_hidden (suc i) us
hide_next i [] h = absurd (omega arith)
hide_next zero (x ∷ xs) h = refl
hide_next (suc i) (x ∷ xs) h = ap (λ ys. hidden_state x ∷ ys) (hide_next i xs (omega arith))

-- what does not stand is hidden as it is
not_standing : (s : UnitState) → is_standing s ≡ false → hidden_state s ≡ s
not_standing free e = refl
not_standing (standing f) e = grind arith
not_standing (withheld f) e = refl

-- a hide within the range makes what it should, refused or not
hide_made : {B : Type 0} (meaning : B → Meaning) (k : ℕ) (b c : B) (r : Result (Unit {0}) Refusal) → 1 ≤ k → k ≤ unit_count (meaning b) → Edited meaning (hide_edit k) b c r → meaning c ≡ (hide_edit k (meaning b)).made
hide_made meaning k b c (Ok x) low high told = told.1
hide_made meaning k b c (Err x) low high told =
    let m = meaning b in
    let rests : is_standing (state_at m k) ≡ false = grind (arith, common_steps, told.0) in
    let mk : List UnitState → Meaning = λ us. record { materials = m.materials; units = us } in
    ap meaning told.1 ∙ sym (ap mk (ap (set m.units (k - 1)) (not_standing (state_at m k) rests) ∙ set-get_or m.units (k - 1) free))

-- the book after the turn that hides this number
pub hidden_more : {B : Type 0} (meaning : B → Meaning) (m : Meaning) (k : ℕ) (b c : B) (r : Result (Unit {0}) Refusal) → 1 ≤ k → k ≤ unit_count m → meaning b ≡ hidden_to (k - 1) m → Edited meaning (hide_edit k) b c r → meaning c ≡ hidden_to (k + 1 - 1) m
hidden_more meaning m k b c r low high so_far told =
    let count : unit_count (meaning b) ≡ unit_count m = ap unit_count so_far ∙ length_hidden (k - 1) m.units in
    let next : suc (k - 1) ≡ k + 1 - 1 = omega arith in
    let mk : List UnitState → Meaning = λ us. record { materials = m.materials; units = us } in
    hide_made meaning k b c r low (omega arith) told
    ∙ (ap (λ a. (hide_edit k a).made) so_far
    ∙ ap mk (hide_next (k - 1) m.units (omega arith) ∙ ap (λ j. first_hidden j m.units) next))

-- at the end all are hidden
pub hidden_all : (m : Meaning) (i : ℕ) → unit_count m ≤ i → hidden_to i m ≡ all_hidden m
hidden_all m i h = grind (arith, take_all i m.units h, drop_all i m.units h, append-nil (map hidden_state m.units))
