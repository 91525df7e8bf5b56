use Rattle.structure.proofs.Bounds.{problem_bounded}
use Rattle.structure.proofs.Collecting.{solution_in_largest, collected_holds_every, none_where_unmade}
use Rattle.structure.proofs.Maximal.{union_exists}
use Rattle.structure.proofs.largest_is_maximal.Goals as goal

pub returns : goal.returns
returns c = record { solutions_inside = solution_in_largest; maximal = collected_holds_every; none = none_where_unmade; bounded = problem_bounded; exists = union_exists }
