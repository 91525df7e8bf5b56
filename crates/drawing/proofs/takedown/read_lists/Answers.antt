-- Each turn reads the list of the next unit, where it stands.
use Rattle.std.proofs.Common.{◌≡◌, ℕ, ◌+◌, [], List, sym, ap, ◌∙◌, subst, inr, arith}
use Rattle.drawing.specs.declared.lists.SideLists.{SideLists}
use Rattle.drawing.specs.Sides.{Holds}
use Rattle.book.specs.Asked.{list_on}
use Rattle.drawing.specs.TakingDown.{list_told}
use Rattle.drawing.proofs.Telling.{no_list, idle_list}
use Rattle.drawing.proofs.TakingDown.{below, lists_same, lists_more, lists_all, lists_past}
use Rattle.drawing.proofs.takedown.read_lists.Given as given
use Rattle.drawing.proofs.takedown.read_lists.Goals as goal
use Rattle.drawing.proofs.takedown.read_lists.Goals.{Joined-standing-unit, then-standing-unit, else-standing-unit}

pub read_list-requires : goal.read_list-requires
read_list-requires g c =
    let told : ℕ → List ℕ = λ u. list_told c.args.side u (g.B.Book.meaning c.args.book.now) in
    record {
      known = omega (arith, (g.B.Book.laws.well_formed c.args.book.now).few_units);
      last = lists_past c.loop-unit.lists told c.loop-unit.unit c.loop-unit.invariant.1;
    }

-- after a turn, the list of one unit more is read
turn : (g : given.Over) (c : Joined-standing-unit g) →
    (c.if-standing-unit.book ≡ c.args.book.now)
    × Holds c.if-standing-unit.lists (below (c.loop-unit.unit + 1) [] (λ u. list_told c.args.side u (g.B.Book.meaning c.args.book.now)))
turn g c =
    let m = g.B.Book.meaning c.args.book.now in
    let d = c.args.side in
    let told : ℕ → List ℕ = λ u. list_told d u m in
    let k = c.loop-unit.unit in
    let before = c.loop-unit.invariant.0 in
    elim c.if-standing-unit.branch [
      | then-standing-unit w ↦ (
        w.book-is ∙ (w.read_list.ensures.same ∙ before),
        subst (λ (s : SideLists). Holds s (below (k + 1) [] told)) (sym w.lists-is)
            (lists_more c.loop-unit.lists w.read_list.new.lists told k _ c.loop-unit.invariant.1 w.read_list.ensures.held (ap (λ b. list_told d k (g.B.Book.meaning b)) before)),
      )
      | else-standing-unit w ↦ (
        w.book-is ∙ before,
        subst (λ (s : SideLists). Holds s (below (k + 1) [] told)) (sym w.lists-is)
            (lists_same c.loop-unit.lists told k c.loop-unit.invariant.1 (idle_list m (list_on d) k (sym (c.requires.standing.each k) ∙ w.if-standing-unit.false))),
      )
    ]

pub loop-unit-preserved : goal.loop-unit-preserved
loop-unit-preserved g c = turn g (goal.at.loop-unit-preserved g c).Joined-standing-unit

pub returns : goal.returns
returns g c =
    let m = g.B.Book.meaning c.args.book.now in
    let d = c.args.side in
    record {
      held = lists_all c.loop-unit.lists (λ u. list_told d u m) c.loop-unit.unit c.loop-unit.invariant.1 (λ j l. no_list m (list_on d) j (inr (omega arith)));
      same = c.loop-unit.invariant.0;
    }

pub returns-after-standing-unit : goal.returns-after-standing-unit
returns-after-standing-unit g c =
    let m = g.B.Book.meaning c.args.book.now in
    let d = c.args.side in
    let (same, held) = turn g (goal.at.returns-after-standing-unit g c).Joined-standing-unit in
    record { held = lists_all c.if-standing-unit.lists (λ u. list_told d u m) (c.loop-unit.unit + 1) held (λ j l. no_list m (list_on d) j (inr (omega arith))); same = same }
