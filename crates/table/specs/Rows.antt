-- What rows of a table mean, and the rows of a meaning.
use Rattle.std.specs.Prelude.{◌≡◌, ℕ, ◌-◌, min, cond, List, [], ◌++◌, map, length, take, drop, replicate, None, Option, slice_get}
use Rattle.book.specs.declared.books.Class.{Class}
use Rattle.book.specs.declared.books.State.{State}
use Rattle.book.specs.declared.books.State.TheVariants.{Free, Standing, Withheld}
use Rattle.book.specs.Meaning.{Material, Fitted, UnitState, free, standing, withheld, Meaning}
use Rattle.book.specs.Asked.{plain}
use Rattle.book.specs.Declined.{inside}
use Rattle.book.specs.Climbing.{climbing}
use Rattle.table.specs.declared.rows.UnitRow.{UnitRow}

-- a table uses at most this many rows of each memory
abbrev pub most_rows : ℕ
most_rows = 512

-- how many places a row has for a list
abbrev pub places : ℕ
places = 8

abbrev pub material_in : Class → Material
material_in r = record { wanted = r.wanted; bought = r.bought }

-- the list that a row's entries stand for, in a table of l materials: they ascend strictly, and 0 ends them.
-- Of entries that nobody of ours wrote, the longest front that could be such a list.
abbrev pub list_in : ℕ → List ℕ → List ℕ
list_in l entries = climbing 0 l (take places entries)

abbrev pub in_state : State → Fitted → UnitState
in_state Free f = free
in_state Standing f = standing f
in_state Withheld f = withheld f

abbrev pub fitted_in : ℕ → UnitRow → Fitted
fitted_in l r = record { inputs = list_in l r.inputs; outputs = list_in l r.outputs }

abbrev pub state_in : ℕ → UnitRow → UnitState
state_in l r = in_state r.state (fitted_in l r)

-- how many rows of a memory are used
abbrev pub used : {R : Type 0} → List R → ℕ
used rows = min most_rows (length rows)

-- the row with that number, from 1, where the table uses one
abbrev pub found : {R : Type 0} → ℕ → List R → Option R
found number rows = cond (inside number (used rows)) (slice_get rows (number - 1)) None

-- what the rows mean
abbrev pub materials_in : List Class → List Material
materials_in rows = map material_in (take most_rows rows)

abbrev pub units_in : ℕ → List UnitRow → List UnitState
units_in l rows = map (state_in l) (take most_rows rows)

abbrev pub of_rows : List Class → List UnitRow → Meaning
of_rows ms us = record { materials = materials_in ms; units = units_in (used ms) us }

-- the entries of a list: its numbers, then zeros
abbrev pub entries_of : List ℕ → List ℕ
entries_of xs = xs ++ replicate (places - length xs) 0

abbrev pub fitted_row : State → Fitted → UnitRow
fitted_row s f = record { state = s; inputs = entries_of f.inputs; outputs = entries_of f.outputs }

-- the row of a number: a free one's is empty
abbrev pub row_of : UnitState → UnitRow
row_of free = fitted_row Free (record { inputs = []; outputs = [] })
row_of (standing f) = fitted_row Standing f
row_of (withheld f) = fitted_row Withheld f

-- the rows that are used hold exactly the rows of what they mean. (A material's row always does.)
abbrev pub Exact : ℕ → List UnitRow → Type 0
Exact l rows = take most_rows rows ≡ map row_of (units_in l rows)

-- rows before and after a call: as many, and those that the table does not use are as they were
pub record RowsKept {R : Type 0} (before after : List R) : Type 0 where
  pub size : length after ≡ length before
  pub beyond : drop most_rows after ≡ drop most_rows before

-- rows of a table that is opened: every material plain, every number free; further rows as they were
abbrev pub plain_row : Class
plain_row = record { wanted = plain.wanted; bought = plain.bought }

abbrev pub fresh : {R : Type 0} → R → List R → List R
fresh row rows = replicate (used rows) row ++ drop most_rows rows

-- the meaning of a table that is opened
abbrev pub new_book : (l n : ℕ) → Meaning
new_book l n = record { materials = replicate l plain; units = replicate n free }
