-- Writing a book out as a page.
use Rattle.std.specs.Prelude.{◌≡◌, ℕ, Bool, true, not, ◌&&◌, List, [], ◌∷◌, ◌++◌, map, length, drop, Some, None, Ok, Err, Result, nat_lt}
use Rattle.book.specs.declared.Refusal.{Refusal}
use Rattle.book.specs.declared.Refusal.TheVariants.{OutOfRange, BadList, MemoryTooShort}
use Rattle.book.specs.Meaning.{UnitState, free, standing, withheld, Meaning, material_count, unit_count}
use Rattle.book.specs.Refusals.{Reason, first_refusal}
use Rattle.book.specs.Declined.{inside}
use Rattle.page.specs.Layout.{most, page_length}
use Rattle.page.specs.Format.{page_of}

-- a unit that does not stand goes onto the page as a free number
abbrev pub settled : UnitState → UnitState
settled free = free
settled (standing f) = standing f
settled (withheld f) = free

abbrev pub as_written : Meaning → Meaning
as_written m = record { materials = m.materials; units = map settled m.units }

-- each number is above the one before it, and the first above `last`
abbrev pub rises : ℕ → List ℕ → Bool
rises last [] = true
rises last (x ∷ xs) = nat_lt last x && rises x xs

-- the lists of every standing unit are strictly ascending
abbrev pub lists_rise : UnitState → Bool
lists_rise free = true
lists_rise (standing f) = rises 0 f.inputs && rises 0 f.outputs
lists_rise (withheld f) = true

abbrev pub all_rise : List UnitState → Bool
all_rise [] = true
all_rise (s ∷ ss) = lists_rise s && all_rise ss

-- when writing out into so many bytes of memory is declined
abbrev pub write_reasons : Meaning → ℕ → List Reason
write_reasons m size =
    record { holds = not (inside (material_count m) most && inside (unit_count m) most); refusal = OutOfRange }
    ∷ (record { holds = not (all_rise m.units); refusal = BadList }
    ∷ (record { holds = nat_lt size (page_length (material_count m) (unit_count m)); refusal = MemoryTooShort }
    ∷ []))

-- what each answer says of the memory before and after. Accepted: the page's length is answered, the page stands at the
-- start of the memory, and the bytes after it are as they were. Refused: the first reason that holds is given, and no byte
-- has changed.
abbrev pub WrittenOut : Meaning → (before after : List ℕ) → Result ℕ Refusal → Type 0
WrittenOut m before after (Ok size) = (first_refusal (write_reasons m (length before)) ≡ None) × (size ≡ page_length (material_count m) (unit_count m)) × (after ≡ page_of (as_written m) ++ drop size before)
WrittenOut m before after (Err refusal) = (first_refusal (write_reasons m (length before)) ≡ Some refusal) × (after ≡ before)
