-- A number of sixteen bits always fits five columns, so the field is written.
use Rattle.std.proofs.Common.{◌≡◌, ℕ, ◌+◌, ◌-◌, ◌<◌, ◌≤◌, true, List, length, take, drop, is_ok, Ok, Err, Result, refl, ap, ◌∙◌, arith}
use Rattle.std.proofs.lemmas.List.{length-take-le, length-drop}
use Rattle.columns.specs.declared.DoesNotFit.{DoesNotFit}
use Rattle.columns.specs.Columns.{column, Wrote}
use Rattle.columns.proofs.Laws.{fits_five, length_column}
use Rattle.pagebook.specs.Writes.{over}
use Rattle.pagebook.proofs.Overwritten.{put_over}
use Rattle.pagebook.proofs.fields.put_number.Goals as goal

-- what the writer says of the five columns at a place, where the number has at most five digits
written : (start number : ℕ) (bytes after : List ℕ) (r : Result (Unit {0}) DoesNotFit) → start + 5 ≤ length bytes → number < 100000 → Wrote 5 number (take (start + 5 - start) (drop start bytes)) after r → (is_ok r ≡ true) × (after ≡ column 5 number)
written start number bytes after (Ok _) whole small wrote = (refl, wrote.2)
written start number bytes after (Err _) whole small wrote =
    let five : start + 5 - start ≡ 5 = omega arith in
    absurd (wrote.0 (ap (λ n. length (take n (drop start bytes))) five ∙ length-take-le 5 (drop start bytes) (omega (arith, length-drop start bytes))) (fits_five number small))

pub unwrap-requires : goal.unwrap-requires
unwrap-requires c = (written c.args.start c.from.result c.args.bytes.now c.write.new.field c.write.result c.requires (omega arith) c.write.ensures).0

pub returns : goal.returns
returns c =
    let start = c.args.start in
    let bytes = c.args.bytes.now in
    let number = c.from.result in
    let small : number < 100000 = omega arith in
    put_over start (start + 5 - start) bytes c.write.new.field (column 5 number) (written start number bytes c.write.new.field c.write.result c.requires small c.write.ensures).1 (omega (arith, length_column 5 number (fits_five number small)))
    ∙ ap (λ n. over start (column 5 n) bytes) c.from.ensures
