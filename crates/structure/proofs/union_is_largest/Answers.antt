use Rattle.structure.proofs.Unions.{wanted_in, union_holds_every, holds_every_is_union, one_union}
use Rattle.structure.proofs.union_is_largest.Goals as goal

pub returns : goal.returns
returns c = record { is_solution = λ p m o some all. union_holds_every p m o all (wanted_in p m o all some); is_union = holds_every_is_union; unique = one_union }
