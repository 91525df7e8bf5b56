use Rattle.std.proofs.Common.{◌≡◌, ◌+◌, ◌<◌, true, length, take, sym, ap, ◌∙◌, arith}
use Rattle.std.proofs.lemmas.List.{take_all}
use Rattle.book.specs.Layers.{names}
use Rattle.drawing.proofs.Entries.{taken_kept, taken_here, taken_cases}
use Rattle.drawing.proofs.Asking.{asked_same, asked_then}
use Rattle.drawing.proofs.composition.Needs.ask_each.Goals as goal

pub loop-x-preserved : goal.loop-x-preserved
loop-x-preserved c =
    let xs = c.args.materials.now in
    let i = c.loop-x.x-index in
    let inside : i < length xs = omega arith in
    asked_then c.loop-x.invariant c.ask.ensures (λ x. names x (take (i + 1) xs) ≡ true) (taken_kept xs i inside)
    (λ x e. ap (λ y. names y (take (i + 1) xs)) e ∙ taken_here xs i inside) (taken_cases xs i inside)

pub returns : goal.returns
returns c =
    let xs = c.args.materials.now in
    let all = take_all c.loop-x.x-index xs (omega arith) in
    asked_same c.loop-x.invariant (λ x. names x xs ≡ true) (λ x h. sym (ap (names x) all) ∙ h) (λ x h. ap (names x) all ∙ h)
