use Rattle.std.proofs.Common.{◌≡◌, ℕ, ◌+◌, ◌-◌, ◌*◌, ◌≤◌, List, length, get_or, take, drop, sym, ap, subst, arith}
use Rattle.drawing.specs.Lists.{Placed}
use Rattle.drawing.specs.Sides.{list_at}
use Rattle.drawing.proofs.Entries.{list_few, list_placed}
use Rattle.drawing.proofs.lists.SideLists.list.Goals as goal

pub returns : goal.returns
returns c =
    let s = c.args.self.now in
    let first = 8 * c.args.unit in
    let count = get_or s.counts c.args.unit 0 in
    let part : take (first + count - first) (drop first s.entries) ≡ list_at s c.args.unit = ap (λ (n : ℕ). take n (drop first s.entries)) (omega arith) in
    record {
      same = part;
      placed = subst Placed (sym part) (list_placed s c.args.unit);
      few = subst (λ (xs : List ℕ). length xs ≤ 8) (sym part) (list_few s c.args.unit);
    }
