-- One turn puts one byte more behind the bytes passed; at the end they are the field.
use Rattle.std.proofs.Common.{get_or, take}
use Rattle.std.proofs.lemmas.List.{take_more, take_all}
use Rattle.columns.proofs.OneMore.{holds_next, read_back}
use Rattle.columns.proofs.read.Goals as goal

pub loop-byte-preserved : goal.loop-byte-preserved
loop-byte-preserved c =
    let i = c.loop-byte.byte-index in
    let field = c.args.field.now in
    rw (take_more field i 0 c.loop-byte-test.true)
    (holds_next (take i field) (get_or field i 0) c.loop-byte.content c.next-content.result c.loop-byte.invariant c.next-content.ensures)

pub returns : goal.returns
returns c =
    let i = c.loop-byte.byte-index in
    let field = c.args.field.now in
    let whole = rw (take_all i field c.loop-byte-test.false) at c.loop-byte.invariant in
    record { tells = whole; reads_back = read_back field c.loop-byte.content whole }
