-- What a book that is asked tells of a number. Of a unit number that does not stand, or of a number that the book does not
-- have, there is nothing to tell: such a unit number counts as free, such a material as plain.
use Rattle.std.specs.Prelude.{ℕ, ◌-◌, false, List, [], length, Some, None, Option, slice_index}
use Rattle.std.specs.Option.{unwrap_or}
use Rattle.book.specs.Meaning.{Material, Fitted, UnitState, free, standing, Meaning}
use Rattle.book.specs.declared.books.Side.{Side}
use Rattle.book.specs.Asked.{where_inside, wanted_at, bought_at, fitted_at, list_on}
use Rattle.columns.specs.Columns.{blanks, column}
use Rattle.page.specs.Layout.{number_width}

-- a material, as the page has it
abbrev pub told_material : ℕ → Meaning → Material
told_material k m = record { wanted = unwrap_or (wanted_at k m) false; bought = unwrap_or (bought_at k m) false }

-- a unit number, as the page has it
abbrev pub state_from : Option Fitted → UnitState
state_from None = free
state_from (Some f) = standing f

abbrev pub told_state : ℕ → Meaning → UnitState
told_state k m = state_from (fitted_at k m)

-- its list on one side
abbrev pub list_from : Side → Option Fitted → List ℕ
list_from side None = []
list_from side (Some f) = list_on side f

abbrev pub told_list : Side → ℕ → Meaning → List ℕ
told_list side k m = list_from side (fitted_at k m)

-- the entry at a place of a list, from 1
abbrev pub entry_of : List ℕ → ℕ → Option ℕ
entry_of xs place = where_inside place (length xs) (slice_index xs (place - 1))

-- and the field that it goes into
abbrev pub field_bytes : Option ℕ → List ℕ
field_bytes None = blanks number_width
field_bytes (Some x) = column number_width x
