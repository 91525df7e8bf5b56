-- A material inside the book has its line within the bytes.
use Rattle.std.proofs.Common.{◌≡◌, true, sym, ap, ◌∙◌, arith}
use Rattle.book.specs.Meaning.{material_count}
use Rattle.book.specs.Declined.{inside}
use Rattle.pagebook.specs.PageBooks.{page_meaning}
use Rattle.pagebook.proofs.Answering.{material_there}
use Rattle.pagebook.proofs.PageBook.material_line.Goals as goal

pub returns-clause-whole : goal.returns-clause-whole
returns-clause-whole c =
    let book = c.args.self.now in
    let k = c.args.material in
    let within : inside k (material_count (page_meaning book)) ≡ true = sym (c.if-not-within.ensures ∙ ap (inside k) c.counts-materials.ensures.materials) in
    omega (arith, (material_there book.«open» book.bytes.now k within).whole, c.material_start.ensures)
