-- Over a page the book is what is read from the page, and over refused bytes it is the empty book.
use Rattle.std.proofs.Common.{refl, ap, ◌∙◌}
use Rattle.book.specs.Meaning.{material_count, unit_count}
use Rattle.page.specs.Checked.{SomePage}
use Rattle.pagebook.specs.PageBooks.{meaning_of}
use Rattle.pagebook.proofs.Read.{opened_page}
use Rattle.pagebook.proofs.PageBook.open.Goals as goal

pub returns-clause-means : goal.returns-clause-means
returns-clause-means c =
    let bytes = c.args.bytes.now in
    record {
      page = λ m ok e.
          let some : SomePage bytes = (material_count m, unit_count m, record { meaning = m; acceptable = ok; materials = refl; units = refl; written = e }) in
          let read = opened_page bytes m ok e in
          (ap (λ o. meaning_of o bytes) (c.is_page-open.ensures.page.1 some) ∙ read.0, read.1);
      refused = λ line column fault. ap (λ o. meaning_of o bytes) (c.is_page-open.ensures.refused line column fault);
    }
