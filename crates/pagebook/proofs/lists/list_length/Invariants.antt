use Rattle.std.proofs.Common.{◌≡◌}
use Rattle.std.specs.Slice.Iter.{chunks_exact_rest, chunks_exact_size}
use Rattle.std.specs.Iterator.Adapters.{enumerate_count, enumerate_source}
use Rattle.page.specs.Layout.{number_width}
use Rattle.pagebook.proofs.Entries.{CountedTo}
use Rattle.pagebook.proofs.lists.list_length.Given as goal

abbrev pub invariant-loop-place : goal.invariant-loop-place
invariant-loop-place l =
    record {
      so_far : CountedTo l.list l.highest (enumerate_count l.place-iterator) l.last (chunks_exact_rest (enumerate_source l.place-iterator));
      fields : chunks_exact_size (enumerate_source l.place-iterator) ≡ number_width;
    }
