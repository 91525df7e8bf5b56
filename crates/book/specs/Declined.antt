-- When each edit of a book is declined: its reasons in their order, of which the first that holds is given.
use Rattle.std.specs.Prelude.{ℕ, ◌-◌, Bool, true, false, not, ◌&&◌, List, [], ◌∷◌, length, nat_le, nat_lt, slice_index_or}
use Rattle.book.specs.declared.Refusal.TheVariants.{OutOfRange, BadList, NotFree, NotStanding, NotWithheld}
use Rattle.book.specs.Meaning.{Fitted, UnitState, free, standing, withheld, Meaning, material_count, unit_count}
use Rattle.book.specs.Refusals.{Reason}

-- k is a number from 1 to the count
abbrev pub inside : ℕ → ℕ → Bool
inside k count = nat_le 1 k && nat_le k count

-- each number is above the one before it and at most `highest`, and the first is above `last`
abbrev pub climbs : (last highest : ℕ) → List ℕ → Bool
climbs last highest [] = true
climbs last highest (x ∷ xs) = nat_lt last x && (nat_le x highest && climbs x highest xs)

-- a list that a unit may be fitted with in a book of l materials: at most eight entries, each from 1 to l, strictly ascending
abbrev pub fitting : ℕ → List ℕ → Bool
fitting l xs = nat_le (length xs) 8 && climbs 0 l xs

-- what stands at unit number k
abbrev pub state_at : Meaning → ℕ → UnitState
state_at m k = slice_index_or m.units (k - 1) free

abbrev pub is_free : UnitState → Bool
is_free free = true
is_free (standing f) = false
is_free (withheld f) = false

abbrev pub is_standing : UnitState → Bool
is_standing free = false
is_standing (standing f) = true
is_standing (withheld f) = false

abbrev pub is_withheld : UnitState → Bool
is_withheld free = false
is_withheld (standing f) = false
is_withheld (withheld f) = true

-- k is the number of a withheld unit
abbrev pub withheld_at : Meaning → ℕ → Bool
withheld_at m k = inside k (unit_count m) && is_withheld (state_at m k)

-- to fit a unit at number k
abbrev pub fit_reasons : Meaning → ℕ → Fitted → List Reason
fit_reasons m k f =
    record { holds = not (inside k (unit_count m)); refusal = OutOfRange }
    ∷ (record { holds = not (fitting (material_count m) f.inputs && fitting (material_count m) f.outputs); refusal = BadList }
    ∷ (record { holds = not (is_free (state_at m k)); refusal = NotFree }
    ∷ []))

-- to class material k
abbrev pub class_reasons : Meaning → ℕ → List Reason
class_reasons m k = record { holds = not (inside k (material_count m)); refusal = OutOfRange } ∷ []

-- to hide the unit at number k
abbrev pub hide_reasons : Meaning → ℕ → List Reason
hide_reasons m k =
    record { holds = not (inside k (unit_count m)); refusal = OutOfRange }
    ∷ (record { holds = not (is_standing (state_at m k)); refusal = NotStanding }
    ∷ [])

-- to show the unit at number k again, and to clear it
abbrev pub return_reasons : Meaning → ℕ → List Reason
return_reasons m k = record { holds = not (withheld_at m k); refusal = NotWithheld } ∷ []
