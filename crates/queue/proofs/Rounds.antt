-- Places counted round the end of a memory, and the entries that stand at them.
use Rattle.std.proofs.Common.{◌≡◌, ℕ, suc, ◌+◌, ◌-◌, ◌%◌, ◌<◌, ◌≤◌, ◌≢◌, ◌⊎◌, List, [], ◌∷◌, ◌++◌, length, get_or, take, drop, set, sym, refl, ap, ◌∙◌, subst, inl, inr, ⊎_elim, mod-lt, mod-eq_of_lt, arith}
use native.Mathlib.Nat.{mod-eq-sub-mod, mod-add-mod}
use Rattle.std.proofs.lemmas.List.{length-take, length-drop, length-append, length-set, length_push, get_or-take, get_or-drop, get_or_append_left, get_or-append_right, get_or-set_same, get_or-set_other, get_or_push, same_lists, drop_more}
use Rattle.std.proofs.lemmas.Bool.{cases_lt}
use Rattle.queue.specs.Waiting.{entries_from}

-- past the end, a place is counted on from the start
pub round_past : (place end : ℕ) → end ≤ place → place < end + end → place % end ≡ place - end
round_past place end a b = let low : place - end < end = omega arith in mod-eq-sub-mod a ∙ mod-eq_of_lt low

-- a place that is counted on by less than twice the places
round_cases : (place end : ℕ) → place < end + end → ((place < end) × (place % end ≡ place)) ⊎ ((end ≤ place) × (place % end ≡ place - end))
round_cases place end b =
    ⊎_elim (λ (a : place < end). inl (a, mod-eq_of_lt a)) (λ (a : end ≤ place). inr (a, round_past place end a b)) (cases_lt place end)

-- fewer steps round than there are places lead to different places
pub round_apart : (place near far end : ℕ) → place < end → near < far → far < end → (place + near) % end ≢ (place + far) % end
round_apart place near far end a b c e =
    ⊎_elim
    (λ u. ⊎_elim (λ v. omega (arith, u, v, e)) (λ v. omega (arith, u, v, e)) (round_cases (place + far) end (omega arith)))
    (λ u. ⊎_elim (λ v. omega (arith, u, v, e)) (λ v. omega (arith, u, v, e)) (round_cases (place + far) end (omega arith)))
    (round_cases (place + near) end (omega arith))

module _ {X : Type 0} where
  -- as many entries are read as are counted
  pub length_entries : (places : List X) (head count : ℕ) → head ≤ length places → count ≤ length places → length (entries_from places head count) ≡ count
  length_entries places head count a b = simp (length-take, length-drop, length-append) (omega arith)

  -- an entry stands as many places on from the first as entries wait before it
  pub entry_at : (places : List X) (head count k : ℕ) (d : X) → head ≤ length places → count ≤ length places → k < count →
      get_or (entries_from places head count) k d ≡ get_or places ((head + k) % length places) d
  entry_at places head count k d a b l =
      get_or-take count (drop head (places ++ places)) k d l ∙ (get_or-drop head (places ++ places) k d ∙ twice)
    where
      twice : get_or (places ++ places) (head + k) d ≡ get_or places ((head + k) % length places) d
      twice =
          ⊎_elim
          (λ u. get_or_append_left places places d (head + k) u.0 ∙ ap (λ (i : ℕ). get_or places i d) (sym u.1))
          (λ u. get_or-append_right places places (length places) (head + k) d refl u.0 ∙ ap (λ (i : ℕ). get_or places i d) (sym u.1))
          (round_cases (head + k) (length places) (omega arith))

  -- an entry that is written at the free place waits behind all others
  module _ (places : List X) (head count : ℕ) (entry : X) (a : head < length places) (b : count < length places) where
    abbrev free : ℕ
    free = (head + count) % length places

    abbrev written : List X
    written = set places free entry

    length_written : length written ≡ length places
    length_written = length-set places free entry

    length_older : length (entries_from places head count) ≡ count
    length_older = length_entries places head count (omega arith) (omega arith)

    length_newer : length (entries_from written head (count + 1)) ≡ count + 1
    length_newer = length_entries written head (count + 1) (omega (arith, length_written)) (omega (arith, length_written))

    -- once the entry is written, each entry is read at its place; the older ones are as they were, and the newest is the one written
    newer_at : (k : ℕ) (d : X) → k < count + 1 → get_or (entries_from written head (count + 1)) k d ≡ get_or written ((head + k) % length places) d
    newer_at k d l =
        entry_at written head (count + 1) k d (omega (arith, length_written)) (omega (arith, length_written)) l ∙
        ap (λ (n : ℕ). get_or written ((head + k) % n) d) length_written

    older_kept : (k : ℕ) (d : X) → k < count → get_or (entries_from written head (count + 1)) k d ≡ get_or (entries_from places head count ++ (entry ∷ [])) k d
    older_kept k d l =
        newer_at k d (omega arith) ∙
        (get_or-set_other places free ((head + k) % length places) entry d (round_apart head k count (length places) a l b) ∙
        (sym (entry_at places head count k d (omega arith) (omega arith) l) ∙
        sym (get_or_append_left (entries_from places head count) (entry ∷ []) d k (omega (arith, length_older)))))

    newest_last : (d : X) → get_or (entries_from written head (count + 1)) count d ≡ get_or (entries_from places head count ++ (entry ∷ [])) count d
    newest_last d =
        newer_at count d (omega arith) ∙
        (get_or-set_same places free entry d (mod-lt (head + count) (omega arith)) ∙
        sym (get_or_push (entries_from places head count) entry d count length_older))

    pub added_last : entries_from (set places ((head + count) % length places) entry) head (count + 1) ≡ entries_from places head count ++ (entry ∷ [])
    added_last = same_lists _ _ (length_newer ∙ sym (length_push (entries_from places head count) entry ∙ ap (λ (n : ℕ). n + 1) length_older)) at
      where
        at : (k : ℕ) (d : X) → k < length (entries_from written head (count + 1)) → get_or (entries_from written head (count + 1)) k d ≡ get_or (entries_from places head count ++ (entry ∷ [])) k d
        at k d l =
            ⊎_elim
            (λ (u : k < count). older_kept k d u)
            (λ (u : count ≤ k).
            let e : count ≡ k = omega (arith, length_newer) in
            subst (λ (i : ℕ). get_or (entries_from written head (count + 1)) i d ≡ get_or (entries_from places head count ++ (entry ∷ [])) i d) e (newest_last d))
            (cases_lt k count)

  -- a front of a list and its first element
  take_cons : (n : ℕ) (x : X) (xs : List X) → 0 < n → take n (x ∷ xs) ≡ x ∷ take (n - 1) xs
  take_cons n x xs z = let one : n ≡ suc (n - 1) = omega arith in ap (λ (i : ℕ). take i (x ∷ xs)) one

  -- entries from the place after the last are those from the first
  from_round : (places : List X) (place count : ℕ) → place ≤ length places → 0 < length places → count ≤ length places →
      entries_from places place count ≡ entries_from places (place % length places) count
  from_round places place count a z b = same_lists _ _ (before ∙ sym after) at
    where
      low : place % length places < length places
      low = mod-lt place z

      before : length (entries_from places place count) ≡ count
      before = length_entries places place count a b

      after : length (entries_from places (place % length places) count) ≡ count
      after = length_entries places (place % length places) count (omega arith) b

      at : (k : ℕ) (d : X) → k < length (entries_from places place count) → get_or (entries_from places place count) k d ≡ get_or (entries_from places (place % length places) count) k d
      at k d l =
          let l' : k < count = omega (arith, before) in
          entry_at places place count k d a b l' ∙
          (ap (λ (i : ℕ). get_or places i d) (sym (mod-add-mod place (length places) k)) ∙
          sym (entry_at places (place % length places) count k d (omega (arith, low)) b l'))

  -- the oldest entry stands at the first place, and the others wait from the next place round the end on
  pub taken_first : (places : List X) (head count : ℕ) (d : X) → head < length places → 0 < count → count ≤ length places →
      entries_from places head count ≡ get_or places head d ∷ entries_from places ((head + 1) % length places) (count - 1)
  taken_first places head count d a z b =
      ap (take count) (drop_more (places ++ places) head d (simp length-append (omega arith))) ∙
      (take_cons count (get_or (places ++ places) head d) (drop (head + 1) (places ++ places)) z ∙
      (ap (λ (x : X). x ∷ entries_from places (head + 1) (count - 1)) (get_or_append_left places places d head a) ∙
      ap (λ (xs : List X). get_or places head d ∷ xs) (from_round places (head + 1) (count - 1) (omega arith) (omega arith) (omega arith))))
