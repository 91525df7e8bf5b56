use Rattle.std.proofs.Common.{eqb, length, ap, arith}
use Rattle.std.proofs.lemmas.List.Sums.{count_by-le-length}
use Rattle.drawing.proofs.reduction.Reduction.drain.Goals as goal

pub loop-material-smaller : goal.loop-material-smaller
loop-material-smaller c =
    let long = c.loop-material.invariant.makers_long in
    let still_long = c.sweep.ensures.after.makers_long in
    let one_less = ap length c.in-Some.ensures.told.oldest in
    let zeros = count_by-le-length (eqb 0) c.loop-material.self.reduced.makers in
    let zeros-after = count_by-le-length (eqb 0) c.sweep.new.self.reduced.makers in
    omega (arith, c.sweep.ensures.grown, long, still_long, one_less, zeros, zeros-after)
