use Rattle.std.proofs.Common.{refl, arith}
use Rattle.queue.proofs.Calls.{room, taken}
use Rattle.queue.proofs.WaitingList.pop.Goals as goal

pub returns : goal.returns
returns g c = record {
  told = taken c.args.self.now _ _ _ (omega arith) refl refl c.round-self.ensures (omega arith);
  room = room c.args.self.now _ refl;
  there = refl;
}
