use Rattle.std.proofs.Common.{◌∙◌, ap, subst}
use Rattle.structure.specs.Problem.{Problem, problem}
use Rattle.structure.specs.Answers.{Draws}
use Rattle.structure.proofs.Bounds.{problem_bounded}
use Rattle.structure.proofs.Answered.{one_answer, impossible_exactly, holds_every, exactly_in_some}
use Rattle.drawing.specs.Picture.{answer_of}
use Rattle.drawing.proofs.maximal.draw.Goals as goal

pub returns : goal.returns
returns g c =
    let same = c.take_numbers-network.ensures.same in
    let seen = c.take_lists.ensures.seen ∙ ap (λ b. problem (g.B.Book.meaning b)) same in
    let told = subst (λ (p : Problem). Draws p (answer_of c.draw_network.result)) seen c.draw_network.ensures in
    let bounded = problem_bounded _ (g.B.Book.laws.well_formed c.args.book.now) in
    record {
      told = told;
      only = λ other o. one_answer _ bounded _ other told o;
      impossible_exactly = impossible_exactly _ _ told;
      drawn_holds_every = holds_every _ bounded _ told;
      drawn_exactly_in_some = exactly_in_some _ bounded _ told;
      same = c.take_lists.ensures.same ∙ same;
    }
