-- The content so far is what the bytes passed hold, as a field of their own.
use Rattle.std.proofs.Common.{take}
use Rattle.columns.specs.Columns.{Holds}
use Rattle.columns.proofs.read.Given as goal

abbrev pub invariant-loop-byte : goal.invariant-loop-byte
invariant-loop-byte l = Holds (take l.byte-index l.field) l.content
