-- Each number that goes on keeps the test of what is left; the first that does not makes it false.
use Rattle.std.proofs.Common.{◌≡◌, ℕ, ◌+◌, ◌<◌, ◌≤◌, false, ◌&&◌, ltb, leb, ◌⊎◌, List, ◌∷◌, get_or, drop, sym, ap, ◌∙◌, inl, inr}
use Rattle.std.proofs.lemmas.List.{drop_more, at_drop_all}
use Rattle.std.proofs.lemmas.Bool.{and_left, and_right, lt-ltb, le-ltb, le-leb, lt-leb}
use Rattle.book.specs.Declined.{climbs}
use Rattle.book.proofs.lists.is_climbing.Goals as goal
use Rattle.book.proofs.lists.is_climbing.Goals.{then-number-last-via-then-number-last, then-number-last-via-else-number-last+then-number-highest}

-- a number above the last and not above the highest leaves the test to those behind it
goes_on : (last highest x : ℕ) (xs : List ℕ) → last < x → x ≤ highest → climbs last highest (x ∷ xs) ≡ climbs x highest xs
goes_on last highest x xs above below =
    ap (λ b. b && (leb x highest && climbs x highest xs)) (lt-ltb last x above) ∙ ap (λ b. b && climbs x highest xs) (le-leb x highest below)

-- with any other the list does not climb
stops : (last highest x : ℕ) (xs : List ℕ) → (x ≤ last) ⊎ (highest < x) → climbs last highest (x ∷ xs) ≡ false
stops last highest x xs (inl low) = and_left (ltb last x) (leb x highest && climbs x highest xs) (le-ltb last x low)
stops last highest x xs (inr high) =
    and_right (ltb last x) (leb x highest && climbs x highest xs) (and_left (leb x highest) (climbs x highest xs) (lt-leb x highest high))

pub returns-then-number-last : goal.returns-then-number-last
returns-then-number-last c =
    let xs = c.args.list.now in
    let i = c.loop-number.number-index in
    let out : (get_or xs i 0 ≤ c.loop-number.last) ⊎ (c.args.highest < get_or xs i 0) = elim c.then-number-last.branch [
      | then-number-last-via-then-number-last w ↦ inl w.if-number-last.true
      | then-number-last-via-else-number-last+then-number-highest w ↦ inr w.if-number-highest.true
    ] in
    sym (stops c.loop-number.last c.args.highest (get_or xs i 0) (drop (i + 1) xs) out)
    ∙ (ap (climbs c.loop-number.last c.args.highest) (sym (drop_more xs i 0 c.loop-number-test.true)) ∙ c.loop-number.invariant)

pub loop-number-preserved : goal.loop-number-preserved
loop-number-preserved c =
    let xs = c.args.list.now in
    let i = c.loop-number.number-index in
    sym (goes_on c.loop-number.last c.args.highest (get_or xs i 0) (drop (i + 1) xs) c.if-number-last.false c.if-number-highest.false)
    ∙ (ap (climbs c.loop-number.last c.args.highest) (sym (drop_more xs i 0 c.loop-number-test.true)) ∙ c.loop-number.invariant)

pub returns : goal.returns
returns c = sym (at_drop_all (climbs c.loop-number.last c.args.highest) c.args.list.now c.loop-number.number-index c.loop-number-test.false) ∙ c.loop-number.invariant
