-- An entry of the list stands in the field of its place.
use Rattle.std.proofs.Common.{◌≡◌, ◌-◌, true, length, get_or, Some, None, sym, ap, ◌∙◌, arith}
use Rattle.std.proofs.lemmas.Bool.{cond-true}
use Rattle.book.specs.Declined.{inside}
use Rattle.pagebook.specs.Reading.{list_in}
use Rattle.pagebook.proofs.Answering.{inside_parts}
use Rattle.pagebook.proofs.Entries.{entry_shown}
use Rattle.pagebook.proofs.lists.list_entry.Goals as goal

pub number_at-requires : goal.number_at-requires
number_at-requires c =
    let within = inside_parts c.args.place c.list_length.result (sym c.if-not-within.ensures) in
    let entry = entry_shown c.args.list.now c.args.highest (c.args.place - 1) (omega (arith, c.list_length.ensures)) in
    omega (arith, entry.0)

pub overflow_cast-result : goal.overflow_cast-result
overflow_cast-result c =
    let within = inside_parts c.args.place c.list_length.result (sym c.if-not-within.ensures) in
    let entry = entry_shown c.args.list.now c.args.highest (c.args.place - 1) (omega (arith, c.list_length.ensures)) in
    omega (arith, entry.2)

pub returns : goal.returns
returns c =
    let list = list_in c.args.highest c.args.list.now in
    let place = c.args.place in
    let within : inside place (length list) ≡ true = sym (c.if-not-within.ensures ∙ ap (inside place) c.list_length.ensures) in
    let parts = inside_parts place (length list) within in
    let entry = entry_shown c.args.list.now c.args.highest (place - 1) (omega arith) in
    ap Some (c.number_at.ensures ∙ sym entry.1) ∙ sym (cond-true (inside place (length list)) (Some (get_or list (place - 1) 0)) None within)
