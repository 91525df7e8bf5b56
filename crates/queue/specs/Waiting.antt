-- What waits in a waiting list, at which places, and what each call does to it.
use Rattle.std.specs.Prelude.{◌≡◌, ℕ, ◌+◌, ◌%◌, ◌<◌, ◌≤◌, List, [], ◌∷◌, ◌++◌, length, take, drop, Some, None, Ok, Err, Option, Result, slice_set}
use Rattle.book.specs.declared.Refusal.{Refusal}
use Rattle.book.specs.declared.Refusal.TheVariants.{MemoryTooShort}
use Rattle.queue.specs.declared.WaitingList.{WaitingList}

-- so many entries from a place on; after the last place comes the first
abbrev pub entries_from : {T : Type 0} → List T → (place count : ℕ) → List T
entries_from places place count = take count (drop place (places ++ places))

-- what every place of the lent memory holds
abbrev pub memory : {T : Type 0} → WaitingList T → List T
memory l = l.places.now

-- how many entries can wait: as many as there are places
abbrev pub capacity : {T : Type 0} → WaitingList T → ℕ
capacity l = length (memory l)

-- what waits, oldest first
abbrev pub waits : {T : Type 0} → WaitingList T → List T
waits l = entries_from (memory l) l.head l.count

-- the place of the oldest entry
abbrev pub first_place : {T : Type 0} → WaitingList T → ℕ
first_place l = l.head

-- the place that the next entry goes to: the one after the newest, round the end
abbrev pub free_place : {T : Type 0} → WaitingList T → ℕ
free_place l = (first_place l + length (waits l)) % capacity l

-- an entry is added: there was room, it waits behind all others, and only the free place is written
pub record Added {T : Type 0} (before after : WaitingList T) (entry : T) : Type 0 where
  pub had_room : length (waits before) < capacity before
  pub last : waits after ≡ waits before ++ (entry ∷ [])
  pub written : memory after ≡ slice_set (memory before) (free_place before) entry
  pub first_kept : first_place after ≡ first_place before

-- an entry is refused: every place is taken, and all is as it was
pub record NotAdded {T : Type 0} (before after : WaitingList T) (refusal : Refusal) : Type 0 where
  pub too_short : refusal ≡ MemoryTooShort
  pub full : length (waits before) ≡ capacity before
  pub same : after ≡ before

-- what the answer of a push says of the list before and after
abbrev pub Pushed : {T : Type 0} → (before after : WaitingList T) → T → Result (Unit {0}) Refusal → Type 0
Pushed before after entry (Ok _) = Added before after entry
Pushed before after entry (Err refusal) = NotAdded before after refusal

-- an entry is taken out: it was the oldest, no place is written, and the next place round the end is now the first
pub record Taken {T : Type 0} (before after : WaitingList T) (entry : T) : Type 0 where
  pub oldest : waits before ≡ entry ∷ waits after
  pub unwritten : memory after ≡ memory before
  pub moved_on : first_place after ≡ (first_place before + 1) % capacity before

-- nothing is taken out: nothing waited, and all is as it was
pub record NotTaken {T : Type 0} (before after : WaitingList T) : Type 0 where
  pub empty : waits before ≡ []
  pub same : after ≡ before

-- what the answer of a pop says of the list before and after
abbrev pub Popped : {T : Type 0} → (before after : WaitingList T) → Option T → Type 0
Popped before after (Some entry) = Taken before after entry
Popped before after None = NotTaken before after

-- at a call, refused or not: no more entries than places, before and after, and as many places after as before
pub record Room {T : Type 0} (before after : WaitingList T) : Type 0 where
  pub fitted : length (waits before) ≤ capacity before
  pub fits : length (waits after) ≤ capacity after
  pub kept : capacity after ≡ capacity before
