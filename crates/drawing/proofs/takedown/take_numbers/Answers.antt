-- All is read of the same book, which has not changed.
use Rattle.std.proofs.Common.{◌≡◌, ◌∙◌, subst, arith}
use Rattle.book.specs.Meaning.{material_count, unit_count}
use Rattle.structure.specs.Problem.{problem}
use Rattle.drawing.specs.Flags.{Flags}
use Rattle.drawing.proofs.Telling.{asked_again}
use Rattle.drawing.proofs.TakingDown.{bounded_early}
use Rattle.drawing.proofs.takedown.take_numbers.Given as given
use Rattle.drawing.proofs.takedown.take_numbers.Goals as goal
use Rattle.drawing.proofs.takedown.take_numbers.Goals.{After-empty-2}

-- what was read is what the book tells
read : (g : given.Over) (c : After-empty-2 g) →
    let m = g.B.Book.meaning c.args.book.now in
    (c.materials-materials.result ≡ material_count m)
    × (c.units-units.result ≡ unit_count m)
    × Flags c.read_materials.new.wanted (problem m).wanted
    × Flags c.read_materials.new.bought (problem m).bought
    × Flags c.read_standing.result (problem m).standing
    × (c.read_standing.new.book ≡ c.args.book.now)
read g c =
    let asked : c.materials-materials.new.self ≡ c.args.book.now = c.materials-materials.ensures.same in
    let counted = c.units-units.ensures.same ∙ asked in
    let known = c.read_materials.ensures.same ∙ counted in (
      c.materials-materials.ensures.answer,
      asked_again (λ b. unit_count (g.B.Book.meaning b)) c.units-units.ensures.answer asked,
      subst (λ b. Flags c.read_materials.new.wanted (problem (g.B.Book.meaning b)).wanted) counted c.read_materials.ensures.wanted,
      subst (λ b. Flags c.read_materials.new.bought (problem (g.B.Book.meaning b)).bought) counted c.read_materials.ensures.bought,
      subst (λ b. Flags c.read_standing.result (problem (g.B.Book.meaning b)).standing) known c.read_standing.ensures.standing,
      c.read_standing.ensures.same ∙ known,
    )

pub invariant_of-result : goal.invariant_of-result
invariant_of-result g c =
    let well = g.B.Book.laws.well_formed c.args.book.now in
    let (materials, units, wanted, bought, standing, same) = read g c in
    record {
      few_materials = omega (arith, well.few_materials, materials);
      few_units = omega (arith, well.few_units, units);
      bounded = bounded_early c.empty.result c.empty-2.result well materials units wanted bought standing c.empty.ensures c.empty-2.ensures;
    }

pub returns : goal.returns
returns g c =
    let (materials, units, wanted, bought, standing, same) = read g (goal.at.returns g c).After-empty-2 in
    record {
      told = record { materials = materials; units = units; wanted = wanted; bought = bought; standing = standing; no_inputs = c.empty.ensures; no_outputs = c.empty-2.ensures };
      same = same;
    }
