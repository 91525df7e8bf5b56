-- The fields of a list are a part of the unit's line.
use Rattle.std.proofs.Common.{◌≡◌, ℕ, ◌+◌, ◌-◌, List, take, drop, ap, sym, ◌∙◌, arith}
use Rattle.book.specs.declared.books.Side.{Side}
use Rattle.book.specs.declared.books.Side.TheVariants.{Inputs, Outputs}
use Rattle.book.specs.Asked.{list_on}
use Rattle.page.specs.Layout.{list_width, unit, line_length}
use Rattle.pagebook.specs.declared.lines.UnitLine.{UnitLine}
use Rattle.pagebook.specs.Reading.{list_in}
use Rattle.pagebook.specs.Places.{lists_in, side_column}
use Rattle.pagebook.proofs.Parts.{part_of_part}
use Rattle.pagebook.proofs.PageBook.list.Goals as goal

-- the list on a side is that in the fields at the side's column
list_there : (bytes : List ℕ) (line : UnitLine) (side : Side) → list_on side (lists_in bytes line) ≡ list_in line.materials (take list_width (drop (line.start + side_column side) bytes))
list_there bytes line Inputs = ap (list_in line.materials) (part_of_part bytes line.start (line_length (unit 0)) (side_column Inputs) list_width (omega arith))
list_there bytes line Outputs = ap (list_in line.materials) (part_of_part bytes line.start (line_length (unit 0)) (side_column Outputs) list_width (omega arith))

pub returns-clause-read : goal.returns-clause-read
returns-clause-read c =
    let bytes = c.args.self.now.bytes.now in
    let line = c.args.line in
    let start = line.start + c.column.result in
    let width : start + 40 - start ≡ 40 = omega arith in
    ap (λ n. list_in line.materials (take n (drop start bytes))) width
    ∙ (ap (λ i. list_in line.materials (take 40 (drop (line.start + i) bytes))) c.column.ensures ∙ sym (list_there bytes line c.args.side))
