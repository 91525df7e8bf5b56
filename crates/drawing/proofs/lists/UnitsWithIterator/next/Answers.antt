use Rattle.std.proofs.Common.{rules, ◌≡◌, ℕ, length, get_or, Some, sym, ap, ◌∙◌, subst}
use Rattle.drawing.specs.Lists.{LastBelow}
use Rattle.drawing.specs.Units.{units_up_to}
use Rattle.drawing.proofs.Walks.{next_given}
use Rattle.drawing.proofs.lists.UnitsWithIterator.next.Goals as goal

pub returns-clause-steps : goal.returns-clause-steps
returns-clause-steps c =
    let w = c.args.self.now in
    let entries = w.lists.now.entries in
    let e = c.in_ok-place.field-0 in
    let is : w.next ≡ Some e = search rules in
    let last = subst (λ (h : ℕ). LastBelow entries (get_or entries e 0) h e) (sym c.linked_place-self.ensures) (w.lists.now.walkable.chained.linked e (w.within e is) (w.some e is)) in
    ap (units_up_to entries) is ∙ next_given entries e c.linked_place-self.result last

pub returns-clause-goes : goal.returns-clause-goes
returns-clause-goes c =
    let fewer = ap length (returns-clause-steps c) in
    record { on = λ _. search rules; keeps = search rules; rests = search rules }
