use Rattle.structure.proofs.Answered.{one_answer, impossible_exactly, holds_every, exactly_in_some}
use Rattle.structure.specs.Problem.{problem}
use Rattle.structure.proofs.Bounds.{problem_bounded}
use Rattle.structure.proofs.Verdicts.{verdict, verdict_draws}
use Rattle.structure.proofs.answer_is_settled.Goals as goal

pub returns : goal.returns
returns c = record { has_answer = λ m well. (verdict (problem m), verdict_draws (problem m) (problem_bounded m well) well.few_units well.few_materials); one_answer = one_answer; impossible_exactly = impossible_exactly; holds_every = holds_every; exactly_in_some = exactly_in_some }
