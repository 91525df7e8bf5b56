-- An open book has the counts of its page.
use Rattle.std.proofs.Common.{sym, ap, ◌∙◌}
use Rattle.book.specs.Meaning.{material_count, unit_count}
use Rattle.pagebook.specs.PageBooks.{meaning_of}
use Rattle.pagebook.specs.PageLaws.{count_materials, count_units}
use Rattle.pagebook.proofs.PageBook.counts.Goals as goal

pub returns-then-self : goal.returns-then-self
returns-then-self c =
    let bytes = c.args.self.now.bytes.now in
    record {
      materials = c.counts_shown.ensures.materials ∙ sym (ap (λ o. material_count (meaning_of o bytes)) c.if-self.true ∙ count_materials bytes);
      units = c.counts_shown.ensures.units ∙ sym (ap (λ o. unit_count (meaning_of o bytes)) c.if-self.true ∙ count_units bytes);
    }
