-- The edits of a book: when each is declined, what it makes of the meaning, and what its answer says.
use Rattle.std.specs.Prelude.{◌≡◌, ℕ, ◌-◌, Bool, List, Some, None, Ok, Err, Result, slice_set}
use Rattle.book.specs.declared.Refusal.{Refusal}
use Rattle.book.specs.declared.books.Lists.{Lists}
use Rattle.book.specs.Meaning.{Material, Fitted, UnitState, free, standing, withheld, Meaning}
use Rattle.book.specs.Refusals.{Reason, first_refusal}
use Rattle.book.specs.Declined.{state_at, fit_reasons, class_reasons, hide_reasons, return_reasons}

-- an edit, asked of a book: the reasons to decline it, in their order, and the meaning that it makes where none holds
pub record Edit : Type 0 where
  pub reasons : List Reason
  pub made : Meaning

-- the book with another state at unit number k, or with another material k; nothing else changes
abbrev pub with_unit : Meaning → ℕ → UnitState → Meaning
with_unit m k s = record { materials = m.materials; units = slice_set m.units (k - 1) s }

abbrev pub with_material : Meaning → ℕ → Material → Meaning
with_material m k x = record { materials = slice_set m.materials (k - 1) x; units = m.units }

-- a standing unit withheld, and a withheld one standing again, with their lists
abbrev pub hidden_state : UnitState → UnitState
hidden_state free = free
hidden_state (standing f) = withheld f
hidden_state (withheld f) = withheld f

abbrev pub shown_state : UnitState → UnitState
shown_state free = free
shown_state (standing f) = standing f
shown_state (withheld f) = standing f

-- the lists that a caller hands over
abbrev pub lists_given : Lists → Fitted
lists_given x = record { inputs = x.inputs.now; outputs = x.outputs.now }

-- a unit with these lists stands at the number
abbrev pub fit_edit : ℕ → Fitted → Meaning → Edit
fit_edit k f m = record { reasons = fit_reasons m k f; made = with_unit m k (standing f) }

-- whether a material is wanted and whether it is bought
abbrev pub class_edit : ℕ → Bool → Bool → Meaning → Edit
class_edit k w b m = record { reasons = class_reasons m k; made = with_material m k (record { wanted = w; bought = b }) }

-- a standing unit is withheld
abbrev pub hide_edit : ℕ → Meaning → Edit
hide_edit k m = record { reasons = hide_reasons m k; made = with_unit m k (hidden_state (state_at m k)) }

-- a withheld unit stands again
abbrev pub show_edit : ℕ → Meaning → Edit
show_edit k m = record { reasons = return_reasons m k; made = with_unit m k (shown_state (state_at m k)) }

-- a withheld unit is taken away: its number is free
abbrev pub clear_edit : ℕ → Meaning → Edit
clear_edit k m = record { reasons = return_reasons m k; made = with_unit m k free }

-- what an edit's answer says of the book before and after. Accepted: no reason holds, and the book means what the edit
-- makes. Refused: the first reason that holds is given, and the book is as it was, all of it.
abbrev pub Edited : {B : Type 0} → (B → Meaning) → (Meaning → Edit) → (before after : B) → Result (Unit {0}) Refusal → Type 0
Edited meaning edit before after (Ok _) = (first_refusal (edit (meaning before)).reasons ≡ None) × (meaning after ≡ (edit (meaning before)).made)
Edited meaning edit before after (Err refusal) = (first_refusal (edit (meaning before)).reasons ≡ Some refusal) × (after ≡ before)
