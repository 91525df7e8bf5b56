-- Each turn sets the flag of the next unit.
use Rattle.std.proofs.Common.{◌≡◌, ◌+◌, ◌≤◌, false, set, ◌∙◌, inr, arith}
use Rattle.book.specs.Meaning.{unit_count}
use Rattle.book.specs.Declined.{state_at, is_standing}
use Rattle.book.specs.Asked.{stands_at}
use Rattle.structure.specs.Problem.{problem}
use Rattle.drawing.specs.Flags.{Flags}
use Rattle.drawing.proofs.Telling.{flag_again, no_flag}
use Rattle.drawing.proofs.TakingDown.{below, flags_more, flags_all}
use Rattle.drawing.proofs.takedown.read_standing.Given as given
use Rattle.drawing.proofs.takedown.read_standing.Goals as goal
use Rattle.drawing.proofs.takedown.read_standing.Goals.{After-unwrap_or}

-- after a turn, one unit more is read
turn : (g : given.Over) (c : After-unwrap_or g) →
    (c.stands.new.self ≡ c.args.book.now)
    × Flags (set c.loop-unit.standing c.loop-unit.unit c.unwrap_or.result) (below (c.loop-unit.unit + 1) false (problem (g.B.Book.meaning c.args.book.now)).standing)
turn g c =
    let p = problem (g.B.Book.meaning c.args.book.now) in
    let k = c.loop-unit.unit in
    let few : k ≤ 1024 = omega (arith, (g.B.Book.laws.well_formed c.args.book.now).few_units) in
    let before = c.loop-unit.invariant.0 in
    let stands = flag_again (λ b. stands_at k (g.B.Book.meaning b)) c.unwrap_or.ensures c.stands.ensures.answer before in
    (c.stands.ensures.same ∙ before, flags_more c.loop-unit.standing p.standing k c.unwrap_or.result few c.loop-unit.invariant.1 stands)

pub returns : goal.returns
returns g c =
    let m = g.B.Book.meaning c.args.book.now in
    record {
      standing = flags_all _ (problem m).standing c.loop-unit.unit c.loop-unit.invariant.1 (λ j l. no_flag j (unit_count m) (is_standing (state_at m j)) (inr (omega arith)));
      same = c.loop-unit.invariant.0;
    }

pub returns-2 : goal.returns-2
returns-2 g c =
    let m = g.B.Book.meaning c.args.book.now in
    let (same, standing) = turn g (goal.at.returns-2 g c).After-unwrap_or in
    record { standing = flags_all _ (problem m).standing (c.loop-unit.unit + 1) standing (λ j l. no_flag j (unit_count m) (is_standing (state_at m j)) (inr (omega arith))); same = same }
