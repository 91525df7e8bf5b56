-- What was written out reads back, since the meaning of every book is well-formed.
use Rattle.roundtrip.proofs.Saved.{reads_back}
use Rattle.roundtrip.proofs.save.Goals as goal

pub returns-clause-reads_back : goal.returns-clause-reads_back
returns-clause-reads_back g c = reads_back _ c.args.memory.now c.write_out.new.memory c.write_out.result (g.B.Book.laws.well_formed c.args.book.now) c.write_out.ensures.told
