-- What a list has for each number from 1 on: the value at the place before it, and another for every number that it has none for.
use Rattle.std.proofs.Common.{◌≡◌, ℕ, ◌+◌, ◌-◌, ◌<◌, ◌≤◌, List, length, get_or, unwrap_or, arith}
use Rattle.std.proofs.lemmas.List.{same_lists, get_or_default}
use Rattle.std.proofs.lemmas.Bool.{false_from_ne_true}
use Rattle.book.specs.Declined.{inside}
use Rattle.book.specs.Asked.{where_inside}
use Rattle.structure.proofs.Searches.{is_inside}

abbrev pub entry : {X : Type 0} → X → List X → ℕ → X
entry fresh xs k = unwrap_or (where_inside k (length xs) (get_or xs (k - 1) fresh)) fresh

module _ {X : Type 0} (fresh : X) (xs : List X) where
  pub entry_at : (k : ℕ) → 1 ≤ k → k ≤ length xs → entry fresh xs k ≡ get_or xs (k - 1) fresh
  entry_at k low high = rw ((is_inside k (length xs)).1 (low, high))

  pub entry_none : (k : ℕ) → ((1 ≤ k) × (k ≤ length xs) → ⊥) → entry fresh xs k ≡ fresh
  entry_none k out = rw (false_from_ne_true (inside k (length xs)) (λ i. out ((is_inside k (length xs)).0 i)))

-- lists of one length that have the same for every number are equal
pub same_entries : {X : Type 0} (fresh : X) (xs ys : List X) → length xs ≡ length ys → ((k : ℕ) → entry fresh xs k ≡ entry fresh ys k) → xs ≡ ys
same_entries fresh xs ys long same = same_lists xs ys long (λ k d h.
    let g : k < length ys = omega arith in
    let back : k + 1 - 1 ≡ k = omega arith in
    let x = entry_at fresh xs (k + 1) (omega arith) (omega arith) in
    let y = entry_at fresh ys (k + 1) (omega arith) (omega arith) in
    cc (get_or_default xs k d fresh h, same (k + 1), get_or_default ys k fresh d g))
