-- The book that is opened means what the page means, and that is what is written out.
use Rattle.std.proofs.Common.{subst}
use Rattle.writing.specs.WrittenOut.{WrittenOut}
use Rattle.roundtrip.proofs.Saved.{old_bytes, empty_refused}
use Rattle.roundtrip.proofs.copy_page.Goals as goal

pub returns-clause-copied : goal.returns-clause-copied
returns-clause-copied c =
    let opened = c.open-book.ensures.means in
    let before = c.args.memory.now in
    let after = c.write_out.new.memory in
    let r = c.write_out.result in
    let told = c.write_out.ensures.told in
    record {
      told = λ m a e. subst (λ x. WrittenOut x before after r) (opened.page m a e).0 told;
      old_bytes = λ m a e room. old_bytes m c.args.page.now before after r a e room (subst (λ x. WrittenOut x before after r) (opened.page m a e).0 told);
      refused = λ line column f. empty_refused before after r (subst (λ x. WrittenOut x before after r) (opened.refused line column f) told);
    }
