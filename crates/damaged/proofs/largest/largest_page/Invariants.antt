use Rattle.std.proofs.Common.{◌≡◌, ◌+◌, ◌*◌, vec_len}
use Rattle.damaged.proofs.largest.largest_page.Given as goal

abbrev pub invariant-loop-material : goal.invariant-loop-material
invariant-loop-material l = vec_len l.page ≡ 4 + 7 * l.material

abbrev pub invariant-loop-unit : goal.invariant-loop-unit
invariant-loop-unit l = vec_len l.page ≡ 3508 + 87 * l.unit
