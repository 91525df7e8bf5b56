use Rattle.std.proofs.Common.{ℕ, ◌+◌, List, get_or, sym, ap, ◌∙◌, subst, arith}
use Rattle.std.proofs.lemmas.Bool.{both_ways}
use Rattle.drawing.specs.Flags.{flagged}
use Rattle.drawing.specs.Network.{taken_down}
use Rattle.drawing.specs.Reduction.{Among, times, Eligible}
use Rattle.drawing.proofs.Entries.{list_few}
use Rattle.drawing.proofs.Arcs.{arcs_few}
use Rattle.drawing.proofs.Enlisting.{enlisted_passed, enlisted_added}
use Rattle.drawing.proofs.reduction.enlist_unit.Goals as goal
use Rattle.drawing.proofs.reduction.enlist_unit.Goals.{else-network-unit-via-then-network-unit+else-not-any_bought, else-network-unit-via-else-network-unit}

pub count_entries-requires : goal.count_entries-requires
count_entries-requires c =
    let n = c.args.network.now in
    let t = c.requires.before in
    record {
      placed = c.list-outputs.ensures.placed;
      places = c.args.reduced.now.makers_long;
      few = c.list-outputs.ensures.few;
      low = λ x. omega (arith, t.counted x, arcs_few (taken_down n) x (flagged c.args.reduced.now.live) c.args.unit (list_few n.outputs));
    }

pub returns-then-not-any_bought : goal.returns-then-not-any_bought
returns-then-not-any_bought c =
    let p = taken_down c.args.network.now in
    let u = c.args.unit in
    let same = c.list-outputs.ensures.same in
    let eligible : Eligible p u =
    record {
      stands = c.if-network-unit.true;
      none_bought = λ x made bought. both_ways c.any_bought.result c.if-not-any_bought.true (c.any_bought.ensures.1 (x, subst (Among x) (sym same) made, bought));
    } in
    enlisted_added p c.requires.before c.requires.known eligible
    c.count_entries.new.makers
    (omega (arith, c.count_entries.auto.makers, c.requires.before.makers_long))
    (λ x. c.count_entries.ensures x ∙ ap (λ (xs : List ℕ). get_or c.args.reduced.now.makers x 0 + times x xs) same)

pub returns-else-network-unit : goal.returns-else-network-unit
returns-else-network-unit c =
    let p = taken_down c.args.network.now in
    let u = c.args.unit in
    let ineligible : Eligible p u → ⊥ =
    λ eligible. elim c.else-network-unit.branch [
      | else-network-unit-via-then-network-unit+else-not-any_bought w ↦
          let b = w.any_bought.ensures.0 w.if-not-any_bought.false in
          eligible.none_bought b.0 (subst (Among b.0) c.list-outputs.ensures.same b.1) b.2
      | else-network-unit-via-else-network-unit w ↦ both_ways (p.standing u) w.if-network-unit.false eligible.stands
    ] in
    enlisted_passed p c.requires.before ineligible
