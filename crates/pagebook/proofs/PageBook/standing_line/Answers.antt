-- A unit's lists are told of where its letter is that of a standing unit.
use Rattle.std.proofs.Common.{◌≡◌, cond, ◌&&◌, Some, None, rules}
use Rattle.book.specs.Meaning.{unit_count}
use Rattle.book.specs.Declined.{inside, state_at, is_standing}
use Rattle.pagebook.specs.PageBooks.{page_meaning}
use Rattle.pagebook.specs.Places.{line_of}
use Rattle.pagebook.proofs.Answering.{standing_answer}
use Rattle.pagebook.proofs.PageBook.standing_line.Goals as goal

pub returns-clause-lists : goal.returns-clause-lists
returns-clause-lists c =
    let book = c.args.self.now in
    let m = page_meaning book in
    let k = c.args.unit in
    let found : c.filter.result ≡ cond (inside k (unit_count m) && is_standing (state_at m k)) (Some (line_of m k)) None = search rules in
    standing_answer book.«open» book.bytes.now k c.filter.result found
