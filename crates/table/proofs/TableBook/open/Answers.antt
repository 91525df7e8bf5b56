-- Both memories are made anew, and fresh rows mean a new book and hold exactly its rows.
use Rattle.std.proofs.Common.{refl, arith}
use Rattle.book.specs.Meaning.{free}
use Rattle.table.specs.Rows.{used, fresh, plain_row, row_of}
use Rattle.table.proofs.Opened.{fresh_made, of_rows_fresh, exact_fresh}
use Rattle.table.proofs.TableBook.open.Goals as goal

pub returns : goal.returns
returns c =
    let ms = c.args.materials.now in
    let us = c.args.units.now in
    let made_ms = fresh_made plain_row ms _ c.fill.new.self (omega arith) (c.fill.ensures.after (λ _ is. is)) in
    let made_us = fresh_made (row_of free) us _ c.fill-2.new.self (omega arith) (c.fill-2.ensures.after (λ _ is. is)) in
    rw (made_ms, made_us) (record {
      materials_there = refl;
      units_there = refl;
      materials_fresh = refl;
      units_fresh = refl;
      meaning = of_rows_fresh ms us;
      exact = exact_fresh (used (fresh plain_row ms)) us;
    })
