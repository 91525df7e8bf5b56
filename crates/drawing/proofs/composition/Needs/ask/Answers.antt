use Rattle.std.proofs.Common.{◌≡◌, ◌<◌, true, length, set, sym, subst, arith}
use Rattle.queue.specs.Waiting.{waits, capacity}
use Rattle.drawing.specs.Composition.{Asked}
use Rattle.queue.proofs.Lists.{admitted, entered}
use Rattle.drawing.proofs.Asking.{not_all, asked_now}
use Rattle.drawing.proofs.composition.Needs.ask.Goals as goal

pub unwrap-requires : goal.unwrap-requires
unwrap-requires c =
    let asked = c.args.self.now.asked in
    let waiting = c.args.self.now.waiting in
    let inside : c.args.material < length asked = omega arith in
    let room : length (waits waiting) < capacity waiting = omega (arith, not_all asked c.args.material inside c.if-not-self-material.true, c.args.self.now.places, c.args.self.now.asked_once) in
    admitted waiting c.push.new.self _ room c.push.result c.push.ensures.told

pub returns-then-not-self-material : goal.returns-then-not-self-material
returns-then-not-self-material c =
    let y = c.args.material in
    let r = c.args.rank in
    let asked = c.args.self.now.asked in
    let waiting = c.args.self.now.waiting in
    let inside : y < length asked = omega arith in
    let room : length (waits waiting) < capacity waiting = omega (arith, not_all asked y inside c.if-not-self-material.true, c.args.self.now.places, c.args.self.now.asked_once) in
    let added = entered waiting c.push.new.self _ room c.push.result c.push.ensures.told in
    subst (Asked (λ x. x ≡ y) r asked (waits waiting) (set asked y true)) (sym added.last) (asked_now y r asked (waits waiting) inside c.if-not-self-material.true)
