-- A unit number inside the book has its line within the bytes, and the letter that was read is that of the line.
use Rattle.std.proofs.Common.{arith}
use Rattle.pagebook.proofs.Answering.{line_found, line_answer}
use Rattle.pagebook.proofs.PageBook.unit_line.Goals as goal

pub bounds-self-start : goal.bounds-self-start
bounds-self-start c =
    let book = c.args.self.now in
    let counts = c.counts-materials.ensures in
    let found = line_found book.«open» book.bytes.now c.args.unit c.unit_start-start.result _ _ c.if-not-within.ensures counts.units c.unit_start-start.ensures counts.materials in
    omega (arith, found.1)

pub returns : goal.returns
returns c =
    let book = c.args.self.now in
    let counts = c.counts-materials.ensures in
    let found = line_found book.«open» book.bytes.now c.args.unit c.unit_start-start.result _ _ c.if-not-within.ensures counts.units c.unit_start-start.ensures counts.materials in
    record {
      line = line_answer book.«open» book.bytes.now c.args.unit c.unit_start-start.result _ c.state_told-state.result found.0 c.unit_start-start.ensures counts.materials c.state_told-state.ensures;
      whole = found.1;
    }
