-- The letter and the two lists, one after the other, are the line refitted.
use Rattle.std.proofs.Common.{◌+◌, ◌-◌, set, ap, ◌∙◌, arith}
use Rattle.book.specs.Edits.{lists_given}
use Rattle.page.specs.Format.{list_bytes}
use Rattle.page.specs.Letters.{letter_of_state}
use Rattle.pagebook.specs.Writes.{over}
use Rattle.pagebook.proofs.Overwritten.{put_over}
use Rattle.pagebook.proofs.Filling.{refitted_written}
use Rattle.pagebook.proofs.Read.{length_list}
use Rattle.pagebook.proofs.fields.put_unit.Goals as goal

pub returns : goal.returns
returns c =
    let f = lists_given c.args.lists in
    let start = c.args.start in
    let bytes = c.args.bytes.now in
    let a = list_bytes f.inputs in
    let b = list_bytes f.outputs in
    let wide_in = length_list 512 f.inputs (omega arith) c.requires.listed.inputs in
    let wide_out = length_list 512 f.outputs (omega arith) c.requires.listed.outputs in
    put_over (start + 46) (start + 46 + 40 - (start + 46)) _ c.put_list-2.new.fields b c.put_list-2.ensures (omega (arith, wide_out))
    ∙ (ap (over (start + 46) b) (put_over (start + 6) (start + 46 - (start + 6)) (set bytes start c.letter.result) c.put_list.new.fields a c.put_list.ensures (omega (arith, wide_in)))
    ∙ (ap (λ l. over (start + 46) b (over (start + 6) a (set bytes start l))) c.letter.ensures
    ∙ refitted_written start (letter_of_state c.args.state) f bytes c.requires.within wide_in wide_out))
