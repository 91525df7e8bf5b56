-- Facts of every waiting list, and what a caller knows once it has seen an answer.
use Rattle.std.proofs.Common.{◌≡◌, ℕ, ◌+◌, ◌%◌, ◌<◌, ◌≤◌, true, ◌≢◌, length, is_ok, Ok, Err, Result, refl, ap, ◌∙◌, mod-eq_of_lt, arith}
use Rattle.book.specs.declared.Refusal.{Refusal}
use Rattle.queue.specs.declared.WaitingList.{WaitingList}
use Rattle.queue.specs.Waiting.{memory, capacity, waits, first_place, free_place, Added, Pushed}
use Rattle.queue.proofs.Rounds.{round_apart, length_entries}

module _ {T : Type 0} where
  -- as many wait as are counted
  pub length_waits : (l : WaitingList T) → length (waits l) ≡ l.count
  length_waits l = length_entries (memory l) l.head l.count (omega arith) (omega arith)

  -- no more wait than there are places
  pub fits : (l : WaitingList T) → length (waits l) ≤ capacity l
  fits l = omega (arith, length_waits l)

  -- the free place, where the entries do not go round the end
  pub free_at : (l : WaitingList T) (place : ℕ) → first_place l + length (waits l) ≡ place → place < capacity l → free_place l ≡ place
  free_at l place e a = ap (λ (p : ℕ). p % capacity l) e ∙ mod-eq_of_lt a

  -- while there is room, nothing waits at the free place
  pub free_is_free : (l : WaitingList T) (k : ℕ) → length (waits l) < capacity l → k < length (waits l) → (first_place l + k) % capacity l ≢ free_place l
  free_is_free l k a b = round_apart (first_place l) k (length (waits l)) (capacity l) (omega arith) b a

  -- while there is room a push is accepted
  pub admitted : (before after : WaitingList T) (entry : T) → length (waits before) < capacity before → (answer : Result (Unit {0}) Refusal) → Pushed before after entry answer → is_ok answer ≡ true
  admitted before after entry room (Ok _) told = refl
  admitted before after entry room (Err _) told = absurd (omega (arith, told.full))

  pub entered : (before after : WaitingList T) (entry : T) → length (waits before) < capacity before → (answer : Result (Unit {0}) Refusal) → Pushed before after entry answer → Added before after entry
  entered before after entry room (Ok _) told = told
  entered before after entry room (Err _) told = absurd (omega (arith, told.full))
