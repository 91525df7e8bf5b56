-- A number of sixteen bits always fits five columns, so the field is written.
use Rattle.std.proofs.Common.{◌≡◌, ℕ, ◌<◌, List, length, replicate, Ok, Err, Result, refl, arith}
use Rattle.std.specs.Result.{IsOk}
use Rattle.columns.specs.Columns.{Wrote}
use Rattle.columns.specs.declared.DoesNotFit.{DoesNotFit}
use Rattle.columns.proofs.Laws.{fits_five}
use Rattle.damaged.proofs.largest.push_number.Goals as goal

-- the writer's answer, where the field is wide enough and the number has at most five digits
written : (number : ℕ) (before after : List ℕ) (r : Result (Unit {0}) DoesNotFit) → length before ≡ 5 → number < 100000 → Wrote 5 number before after r → IsOk r
written number before after (Ok _) wide small wrote = refl
written number before after (Err _) wide small wrote = absurd (wrote.0 wide (fits_five number small))

pub unwrap-requires : goal.unwrap-requires
unwrap-requires c = written c.from.result (replicate 5 32) c.write.new.field c.write.result refl (omega arith) c.write.ensures
