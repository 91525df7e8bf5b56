-- Where the answers about a unit or a material stand on a page.
use Rattle.std.specs.Prelude.{ℕ, ◌+◌, ◌≤◌, List, length, take, drop}
use Rattle.book.specs.declared.books.Class.{Class}
use Rattle.book.specs.declared.books.State.{State}
use Rattle.book.specs.declared.books.State.TheVariants.{Free, Standing, Withheld}
use Rattle.book.specs.declared.books.Side.{Side}
use Rattle.book.specs.declared.books.Side.TheVariants.{Inputs, Outputs}
use Rattle.book.specs.Meaning.{Material, Fitted, UnitState, free, standing, withheld, Meaning, material_count}
use Rattle.book.specs.Declined.{state_at}
use Rattle.page.specs.Layout.{letter_width, number_width, list_width, unit, line_length, line_start}
use Rattle.page.specs.Rules.{inputs_in, outputs_in}
use Rattle.pagebook.specs.declared.lines.UnitLine.{UnitLine}
use Rattle.pagebook.specs.Reading.{list_in}

-- what is known of a material, and of a unit number without its lists
abbrev pub class_of : Material → Class
class_of x = record { wanted = x.wanted; bought = x.bought }

abbrev pub kind_of : UnitState → State
kind_of free = Free
kind_of (standing f) = Standing
kind_of (withheld f) = Withheld

-- the line of unit k, on the page of a book
abbrev pub line_of : Meaning → ℕ → UnitLine
line_of m k = record { start = line_start (material_count m) (unit k); state = kind_of (state_at m k); materials = material_count m }

-- the bytes reach to the end of a unit's line
abbrev pub LineWithin : List ℕ → UnitLine → Type 0
LineWithin bytes line = line.start + line_length (unit 0) ≤ length bytes

-- the lists that stand in a unit's line
abbrev pub lists_in : List ℕ → UnitLine → Fitted
lists_in bytes line = record {
  inputs = list_in line.materials (inputs_in (take (line_length (unit 0)) (drop line.start bytes)));
  outputs = list_in line.materials (outputs_in (take (line_length (unit 0)) (drop line.start bytes)));
}

-- the column of a unit's line at which a list begins, counted from 0
abbrev pub side_column : Side → ℕ
side_column Inputs = letter_width + number_width
side_column Outputs = letter_width + number_width + list_width
