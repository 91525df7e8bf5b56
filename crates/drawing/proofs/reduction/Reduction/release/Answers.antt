use Rattle.std.proofs.Common.{◌≡◌, ℕ, ◌+◌, ◌<◌, ◌≤◌, cond, eqb, List, [], ◌∷◌, ◌++◌, length, get_or, take, sym, ap, ◌∙◌, subst, subst₂, arith}
use Rattle.std.proofs.lemmas.List.{take_more, take_all}
use Rattle.std.proofs.lemmas.List.Sums.{sum_by-take-le}
use Rattle.queue.specs.Waiting.{waits, capacity}
use Rattle.drawing.specs.Reduction.{times, Released}
use Rattle.queue.proofs.Lists.{admitted, entered}
use Rattle.drawing.proofs.Releasing.{some_left, zeros_below, one_less, released_kept, released_last}
use Rattle.drawing.proofs.reduction.Reduction.release.Goals as goal
use Rattle.drawing.proofs.reduction.Reduction.release.Goals.{then-self-x-eq0, else-self-x-eq0}

-- the entry that a turn is at is counted, besides those before it
next_counted : (entries ms : List ℕ) (i : ℕ) → i < length entries → ((x : ℕ) → times x entries ≤ get_or ms x 0) →
    times (get_or entries i 0) (take i entries ++ get_or entries i 0 ∷ []) ≤ get_or ms (get_or entries i 0) 0
next_counted entries ms i h enough =
    let x = get_or entries i 0 in
    omega (arith, enough x, ap (times x) (take_more entries i 0 h), sum_by-take-le (λ (y : ℕ). cond (eqb x y) 1 0) entries (i + 1))

pub overflow_sub-self : goal.overflow_sub-self
overflow_sub-self c =
    let entries = c.args.entries.now in
    let i = c.loop-x.x-index in
    some_left (get_or entries i 0) c.loop-x.invariant.0 (next_counted entries c.args.self.now.reduced.makers i (omega arith) c.requires.counted)

pub unwrap-requires : goal.unwrap-requires
unwrap-requires c =
    let entries = c.args.entries.now in
    let i = c.loop-x.x-index in
    let x = get_or entries i 0 in
    let t = c.loop-x.invariant.0 in
    let some = some_left x t (next_counted entries c.args.self.now.reduced.makers i (omega arith) c.requires.counted) in
    admitted c.loop-x.self.waiting c.push.new.self x
    (omega (arith, c.loop-x.self.places, c.loop-x.self.reduced.makers_long, c.requires.room, t.grown, zeros_below c.loop-x.self.reduced.makers x some))
    c.push.result c.push.ensures.told

pub loop-x-preserved : goal.loop-x-preserved
loop-x-preserved c =
    let entries = c.args.entries.now in
    let i = c.loop-x.x-index in
    let x = get_or entries i 0 in
    let ms₀ = c.args.self.now.reduced.makers in
    let q₀ = waits c.args.self.now.waiting in
    let ms = c.loop-x.self.reduced.makers in
    let q = waits c.loop-x.self.waiting in
    let t = c.loop-x.invariant.0 in
    let enough = next_counted entries ms₀ i (omega arith) c.requires.counted in
    let more = take_more entries i 0 (omega arith) in
    let Done : List ℕ → List ℕ → Type 0 = λ xs l. Released xs ms₀ q₀ (one_less ms x) l in
    let q' = waits c.if-self-x-eq0.self.waiting in
    let ms' = c.if-self-x-eq0.self.reduced.makers in
    let step : (l : List ℕ) → q' ≡ l → ms' ≡ one_less ms x → Done (take i entries ++ x ∷ []) l → Released (take (i + 1) entries) ms₀ q₀ ms' q' =
    λ l e f r. subst (λ (k : List ℕ). Released (take (i + 1) entries) ms₀ q₀ k q') (sym f) (subst₂ Done (sym more) (sym e) r) in
    elim c.if-self-x-eq0.branch [
      | then-self-x-eq0 w ↦
          let room : length q < capacity c.loop-x.self.waiting = omega (arith, c.loop-x.self.places, c.loop-x.self.reduced.makers_long, c.requires.room, t.grown, zeros_below ms x (some_left x t enough)) in
          let last = (entered c.loop-x.self.waiting w.push.new.self x room w.push.result w.push.ensures.told).last in (
            step (q ++ x ∷ []) (ap (λ r. waits r.waiting) w.self-is ∙ last) (ap (λ r. r.reduced.makers) w.self-is) (released_last x t enough w.if-self-x-eq0.true),
            ap (λ r. r.reduced.live) w.self-is ∙ c.loop-x.invariant.1,
          )
      | else-self-x-eq0 w ↦ (
        step q (ap (λ r. waits r.waiting) w.self-is) (ap (λ r. r.reduced.makers) w.self-is) (released_kept x t enough w.if-self-x-eq0.false),
        ap (λ r. r.reduced.live) w.self-is ∙ c.loop-x.invariant.1,
      )
    ]

pub returns : goal.returns
returns c =
    record {
      done =
          subst (λ (xs : List ℕ). Released xs c.args.self.now.reduced.makers (waits c.args.self.now.waiting) c.loop-x.self.reduced.makers (waits c.loop-x.self.waiting))
          (take_all c.loop-x.x-index c.args.entries.now (omega arith))
          c.loop-x.invariant.0;
      same = c.loop-x.invariant.1;
    }
