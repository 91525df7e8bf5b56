-- Each turn sets the two flags of the next material.
use Rattle.std.proofs.Common.{◌≡◌, ◌+◌, ◌≤◌, false, set, refl, ◌∙◌, inl, inr, arith}
use Rattle.book.specs.Meaning.{material_count}
use Rattle.book.specs.Asked.{material_at, wanted_at, bought_at}
use Rattle.structure.specs.Problem.{problem}
use Rattle.drawing.specs.Flags.{Flags}
use Rattle.drawing.proofs.Telling.{flag_again, no_flag}
use Rattle.drawing.proofs.TakingDown.{below, flags_none, flags_more, flags_all}
use Rattle.drawing.proofs.takedown.read_materials.Given as given
use Rattle.drawing.proofs.takedown.read_materials.Goals as goal
use Rattle.drawing.proofs.takedown.read_materials.Goals.{After-unwrap_or-in-loop-material}

pub loop-material-init : goal.loop-material-init
loop-material-init g c =
    let m = g.B.Book.meaning c.args.book.now in
    let p = problem m in (
      refl,
      flags_none c.args.wanted.now p.wanted c.requires.none_wanted (no_flag 0 (material_count m) (material_at m 0).wanted (inl refl)),
      flags_none c.args.bought.now p.bought c.requires.none_bought (no_flag 0 (material_count m) (material_at m 0).bought (inl refl)),
    )

-- after a turn, one material more is read
turn : (g : given.Over) (c : After-unwrap_or-in-loop-material g) →
    let p = problem (g.B.Book.meaning c.args.book.now) in
    let k = c.loop-material.material in
    (c.bought.new.self ≡ c.args.book.now)
    × Flags (set c.loop-material.wanted k c.unwrap_or.result) (below (k + 1) false p.wanted)
    × Flags (set c.loop-material.bought k c.unwrap_or-in-loop-material.result) (below (k + 1) false p.bought)
turn g c =
    let m = g.B.Book.meaning c.args.book.now in
    let p = problem m in
    let k = c.loop-material.material in
    let few : k ≤ 1024 = omega (arith, (g.B.Book.laws.well_formed c.args.book.now).few_materials) in
    let before = c.loop-material.invariant.0 in
    let between = c.wanted.ensures.same ∙ before in
    let wanted = flag_again (λ b. wanted_at k (g.B.Book.meaning b)) c.unwrap_or.ensures c.wanted.ensures.answer before in
    let bought = flag_again (λ b. bought_at k (g.B.Book.meaning b)) c.unwrap_or-in-loop-material.ensures c.bought.ensures.answer between in (
      c.bought.ensures.same ∙ between,
      flags_more c.loop-material.wanted p.wanted k c.unwrap_or.result few c.loop-material.invariant.1 wanted,
      flags_more c.loop-material.bought p.bought k c.unwrap_or-in-loop-material.result few c.loop-material.invariant.2 bought,
    )

pub loop-material-preserved : goal.loop-material-preserved
loop-material-preserved g c = turn g (goal.at.loop-material-preserved g c).After-unwrap_or-in-loop-material

pub returns-2 : goal.returns-2
returns-2 g c =
    let m = g.B.Book.meaning c.args.book.now in
    let p = problem m in
    let k = c.loop-material.material + 1 in
    let (same, wanted, bought) = turn g (goal.at.returns-2 g c).After-unwrap_or-in-loop-material in
    record {
      wanted = flags_all _ p.wanted k wanted (λ j l. no_flag j (material_count m) (material_at m j).wanted (inr (omega arith)));
      bought = flags_all _ p.bought k bought (λ j l. no_flag j (material_count m) (material_at m j).bought (inr (omega arith)));
      same = same;
    }

pub returns : goal.returns
returns g c =
    let m = g.B.Book.meaning c.args.book.now in
    let p = problem m in
    let k = c.loop-material.material in
    record {
      wanted = flags_all c.loop-material.wanted p.wanted k c.loop-material.invariant.1 (λ j l. no_flag j (material_count m) (material_at m j).wanted (inr (omega arith)));
      bought = flags_all c.loop-material.bought p.bought k c.loop-material.invariant.2 (λ j l. no_flag j (material_count m) (material_at m j).bought (inr (omega arith)));
      same = c.loop-material.invariant.0;
    }
