use Rattle.std.proofs.Common.{ℕ, set, refl, ap, arith}
use Rattle.std.proofs.lemmas.List.{length-set}
use Rattle.queue.proofs.Calls.{room, added}
use Rattle.queue.proofs.Lists.{length_waits}
use Rattle.queue.proofs.WaitingList.push.Goals as goal

pub returns-then-self-end : goal.returns-then-self-end
returns-then-self-end g c = record {
  told = record { too_short = refl; full = omega (arith, length_waits c.args.self.now); same = refl };
  room = room c.args.self.now _ refl;
  there = refl;
}

pub returns : goal.returns
returns g c = record {
  told =
      added c.args.self.now _ c.args.entry (omega arith)
      (ap (λ (free : ℕ). set c.args.self.now.places.now free c.args.entry) c.round-free.ensures) refl (omega arith);
  room = room c.args.self.now _ (length-set c.args.self.now.places.now c.round-free.result c.args.entry);
  there = refl;
}
