use Rattle.structure.proofs.Collecting.{collected_solves, rank_inside}
use Rattle.structure.proofs.Ranking.{has_rank}
use Rattle.structure.proofs.collected_solves.Goals as goal

pub returns : goal.returns
returns c = record {
  solution = λ p g o m supported all_made collected spanned. collected_solves p g o m all_made collected spanned supported;
  ranks = rank_inside;
  ranked = λ p bounded g o m supported all_made collected spanned u i.
      let (k, rank) = has_rank p g (λ v j. (bounded.units_known v (supported.stand v j)).1) u ((collected u).0 i) in
      (k, rank_inside p g o m all_made collected spanned u k rank);
}
