use Rattle.std.proofs.Common.{ℕ, ◌+◌, ◌<◌, List, length, sym, refl, subst, arith}
use Rattle.std.proofs.lemmas.Bool.{both_ways}
use Rattle.queue.specs.Waiting.{waits, capacity}
use Rattle.drawing.specs.Network.{taken_down}
use Rattle.drawing.specs.Reduction.{Unmade, Seeded}
use Rattle.queue.proofs.Lists.{admitted, entered}
use Rattle.drawing.proofs.Enlisting.{seeded_room, seeded_passed, seeded_added}
use Rattle.drawing.proofs.reduction.Reduction.seed_material.Goals as goal
use Rattle.drawing.proofs.reduction.Reduction.seed_material.Goals.{else-not-network-material-via-then-not-network-material+else-self-material-eq0, else-not-network-material-via-else-not-network-material}

pub unwrap-requires : goal.unwrap-requires
unwrap-requires c =
    let inside : c.args.material < length c.args.self.now.reduced.makers = omega (arith, c.args.self.now.reduced.makers_long, c.args.network.now.few_materials) in
    admitted c.args.self.now.waiting c.push.new.self c.args.material
    (omega (arith, c.args.self.now.places, seeded_room c.requires.before inside))
    c.push.result c.push.ensures.told

pub returns-then-self-material-eq0 : goal.returns-then-self-material-eq0
returns-then-self-material-eq0 c =
    let p = taken_down c.args.network.now in
    let m = c.args.material in
    let ms = c.args.self.now.reduced.makers in
    let q = waits c.args.self.now.waiting in
    let inside : m < length ms = omega (arith, c.args.self.now.reduced.makers_long, c.args.network.now.few_materials) in
    let room : length q < capacity c.args.self.now.waiting = omega (arith, c.args.self.now.places, seeded_room c.requires.before inside) in
    let here : Unmade p ms m =
    record {
      some = c.requires.some;
      known = c.requires.known;
      none = c.if-self-material-eq0.true;
      unbought = both_ways (p.bought m) c.if-not-network-material.true;
    } in
    record {
      after =
          subst (λ (l : List ℕ). Seeded p ms l (m + 1))
          (sym (entered c.args.self.now.waiting c.push.new.self m room c.push.result c.push.ensures.told).last)
          (seeded_added c.requires.before inside here);
      same = refl;
    }

pub returns-else-not-network-material : goal.returns-else-not-network-material
returns-else-not-network-material c =
    let p = taken_down c.args.network.now in
    let m = c.args.material in
    let ms = c.args.self.now.reduced.makers in
    let inside : m < length ms = omega (arith, c.args.self.now.reduced.makers_long, c.args.network.now.few_materials) in
    let not : Unmade p ms m → ⊥ =
    λ h. elim c.else-not-network-material.branch [
      | else-not-network-material-via-then-not-network-material+else-self-material-eq0 w ↦ w.if-self-material-eq0.false h.none
      | else-not-network-material-via-else-not-network-material w ↦ h.unbought w.if-not-network-material.false
    ] in
    record { after = seeded_passed c.requires.before inside not; same = refl }
