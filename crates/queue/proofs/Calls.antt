-- What each call shows of the list that it leaves.
use Rattle.std.proofs.Common.{◌≡◌, ℕ, ◌+◌, ◌-◌, ◌%◌, ◌<◌, List, ◌∷◌, get_or, set, sym, ap, ◌∙◌, arith}
use Rattle.queue.specs.declared.WaitingList.{WaitingList}
use Rattle.queue.specs.Waiting.{entries_from, memory, capacity, free_place, Added, Taken, Room}
use Rattle.queue.proofs.Rounds.{added_last, taken_first}
use Rattle.queue.proofs.Lists.{length_waits, fits}

module _ {T : Type 0} where
  -- equal parts make equal lists
  same_entries : {ps qs : List T} {h i m n : ℕ} → ps ≡ qs → h ≡ i → m ≡ n → entries_from ps h m ≡ entries_from qs i n
  same_entries a b c = cc

  same_front : {x y : T} {xs ys : List T} → x ≡ y → xs ≡ ys → x ∷ xs ≡ y ∷ ys
  same_front a b = cc

  -- the number of places is as before
  pub room : (before after : WaitingList T) → capacity after ≡ capacity before → Room before after
  room before after e = record { fitted = fits before; fits = fits after; kept = e }

  -- the free place by the count of the code
  free_counted : (l : WaitingList T) → free_place l ≡ (l.head + l.count) % capacity l
  free_counted l = ap (λ (n : ℕ). (l.head + n) % capacity l) (length_waits l)

  -- an entry is written at the free place, and one more is counted
  pub added : (before after : WaitingList T) (entry : T) → before.count < capacity before →
      memory after ≡ set (memory before) ((before.head + before.count) % capacity before) entry →
      after.head ≡ before.head → after.count ≡ before.count + 1 → Added before after entry
  added before after entry a w h n = record {
    had_room = omega (arith, length_waits before);
    last = same_entries w h n ∙ added_last (memory before) before.head before.count entry (omega arith) a;
    written = w ∙ ap (λ (free : ℕ). set (memory before) free entry) (sym (free_counted before));
    first_kept = h;
  }

  -- the entry at the first place is read, the next place is the first, and one less is counted
  pub taken : (before after : WaitingList T) (entry d : T) → 0 < before.count → entry ≡ get_or (memory before) before.head d →
      memory after ≡ memory before → after.head ≡ (before.head + 1) % capacity before → after.count ≡ before.count - 1 →
      Taken before after entry
  taken before after entry d z e w h n = record {
    oldest =
        taken_first (memory before) before.head before.count d (omega arith) z (omega arith) ∙
        same_front (sym e) (sym (same_entries w h n));
    unwritten = w;
    moved_on = h;
  }
