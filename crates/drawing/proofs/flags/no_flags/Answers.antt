-- Every flag is false.
use Rattle.std.proofs.Common.{false}
use Rattle.std.proofs.lemmas.List.{length-replicate}
use Rattle.drawing.proofs.Pushing.{all_same}
use Rattle.drawing.proofs.flags.no_flags.Goals as goal

pub returns : goal.returns
returns c = record { long = length-replicate 1025 false; each = λ k. all_same 1025 k false }
