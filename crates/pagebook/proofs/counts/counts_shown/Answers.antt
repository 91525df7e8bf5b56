-- The two numbers are those of the first line, and their test is that of the room for them.
use Rattle.std.proofs.Common.{◌≡◌, true, false, ◌∙◌}
use Rattle.pagebook.specs.Reading.{room}
use Rattle.pagebook.proofs.Answering.{room_test, with_room, without_room, too_short}
use Rattle.pagebook.proofs.counts.counts_shown.Goals as goal

pub returns-then-bytes-lt-COUNTS_LINE : goal.returns-then-bytes-lt-COUNTS_LINE
returns-then-bytes-lt-COUNTS_LINE c =
    let none = without_room c.args.bytes.now (too_short c.args.bytes.now c.if-bytes-lt-COUNTS_LINE.true) in
    record { materials = none.0; units = none.1 }

pub returns-then-has_room : goal.returns-then-has_room
returns-then-has_room c =
    let bytes = c.args.bytes.now in
    let test : room bytes ≡ true = room_test bytes c.number_at-materials.result c.number_at-units.result true c.number_at-materials.ensures c.number_at-units.ensures c.if-has_room.ensures in
    record { materials = c.number_at-materials.ensures ∙ (with_room bytes test).0; units = c.number_at-units.ensures ∙ (with_room bytes test).1 }

pub returns-else-has_room : goal.returns-else-has_room
returns-else-has_room c =
    let bytes = c.args.bytes.now in
    let test : room bytes ≡ false = room_test bytes c.number_at-materials.result c.number_at-units.result false c.number_at-materials.ensures c.number_at-units.ensures c.if-has_room.ensures in
    record { materials = (without_room bytes test).0; units = (without_room bytes test).1 }
