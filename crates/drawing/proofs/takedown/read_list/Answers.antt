-- Each turn puts the next entry at the end.
use Rattle.std.proofs.Common.{◌≡◌, ℕ, ◌+◌, ◌-◌, List, [], ◌∷◌, ◌++◌, length, take, sym, ap, ◌∙◌, subst, arith}
use Rattle.std.proofs.lemmas.List.{length-take, take_more, take_all}
use Rattle.drawing.specs.Lists.{with_list}
use Rattle.drawing.specs.Sides.{list_at, Holds}
use Rattle.drawing.specs.TakingDown.{list_told}
use Rattle.drawing.proofs.Telling.{asked_again, listed, entry_known, entry_here}
use Rattle.drawing.proofs.TakingDown.{list_own, list_other, list_more}
use Rattle.drawing.proofs.takedown.read_list.Goals as goal

pub entry-requires : goal.entry-requires
entry-requires g c =
    let told : g.row.B.Denot → List ℕ = λ b. list_told c.args.side c.args.unit (g.B.Book.meaning b) in
    let now : told c.loop-place.book ≡ told c.entry_count-count.new.book = ap told c.loop-place.invariant.0 in
    let counted = asked_again (λ b. length (told b)) c.entry_count-count.ensures.answer (sym c.entry_count-count.ensures.same) in
    record { from_one = omega arith; there = omega (arith, ap length now) }

pub push-requires : goal.push-requires
push-requires g c =
    let d = c.args.side in
    let u = c.args.unit in
    let k = c.loop-place.place - 1 in
    let book = c.entry_count-count.new.book in
    let m = g.B.Book.meaning book in
    let well = g.B.Book.laws.well_formed book in
    let xs = list_told d u m in
    let counted = asked_again (λ b. length (list_told d u (g.B.Book.meaning b))) c.entry_count-count.ensures.answer (sym c.entry_count-count.ensures.same) in
    let told = entry_here d u k c.entry.result (g.B.Book.meaning c.loop-place.book) m c.entry.ensures.answer (ap g.B.Book.meaning c.loop-place.invariant.0) in
    let known = entry_known m well d u k (omega arith) in
    let held = c.loop-place.invariant.1 in
    let lists = list_at c.args.lists.now in
    record {
      known = c.requires.known;
      some = omega arith;
      small = omega arith;
      room = omega (arith, ap length (list_own c.loop-place.lists lists u (take k xs) held), length-take k xs, (listed m well d u).few);
      last = λ v l. list_other c.loop-place.lists lists u (take k xs) held v (omega arith) ∙ c.requires.last v (omega arith);
    }

pub loop-place-preserved : goal.loop-place-preserved
loop-place-preserved g c =
    let d = c.args.side in
    let u = c.args.unit in
    let k = c.loop-place.place - 1 in
    let m = g.B.Book.meaning c.entry_count-count.new.book in
    let xs = list_told d u m in
    let counted = asked_again (λ b. length (list_told d u (g.B.Book.meaning b))) c.entry_count-count.ensures.answer (sym c.entry_count-count.ensures.same) in
    let told = entry_here d u k c.entry.result (g.B.Book.meaning c.loop-place.book) m c.entry.ensures.answer (ap g.B.Book.meaning c.loop-place.invariant.0) in
    let lists = list_at c.args.lists.now in
    let side = c.push.new.self in
    let more = list_more c.loop-place.lists lists u (take k xs) c.loop-place.invariant.1 side c.entry.result c.push.ensures in
    let one : take k xs ++ (c.entry.result ∷ []) ≡ take (c.loop-place.place + 1 - 1) xs = ap (λ (x : ℕ). take k xs ++ (x ∷ [])) told ∙ sym (take_more xs k 0 (omega arith)) ∙ ap (λ (n : ℕ). take n xs) (omega arith) in
    (c.entry.ensures.same ∙ c.loop-place.invariant.0, subst (λ (ys : List ℕ). Holds side (with_list lists u ys)) one more)

pub returns : goal.returns
returns g c =
    let d = c.args.side in
    let u = c.args.unit in
    let k = c.loop-place.place - 1 in
    let same = c.entry_count-count.ensures.same in
    let told : g.row.B.Denot → List ℕ = λ b. list_told d u (g.B.Book.meaning b) in
    let xs = told c.entry_count-count.new.book in
    let counted = asked_again (λ b. length (told b)) c.entry_count-count.ensures.answer (sym same) in
    let all : take k xs ≡ told c.args.book.now = take_all k xs (omega arith) ∙ ap told same in
    record {
      held = subst (λ (ys : List ℕ). Holds c.loop-place.lists (with_list (list_at c.args.lists.now) u ys)) all c.loop-place.invariant.1;
      same = c.loop-place.invariant.0 ∙ same;
    }
