-- The letter that was read is that of the material's line.
use Rattle.pagebook.proofs.Answering.{class_answer}
use Rattle.pagebook.proofs.PageBook.class_of.Goals as goal

pub returns : goal.returns
returns c =
    let book = c.args.self.now in
    class_answer book.«open» book.bytes.now c.args.material c.in_ok-start.start c.class_told.result c.in_ok-start.ensures.line c.class_told.ensures
