-- A chain of sets of numbers below n, each made alike from the one before, stands still at its n-th set.
use Rattle.std.proofs.Common.{◌≡◌, ℕ, zero, suc, ◌+◌, ◌-◌, ◌<◌, ◌≤◌, Bool, true, false, cond, ◌⊎◌, refl, inl, inr, ⊎_elim, arith}
use Rattle.std.proofs.lemmas.Bool.{cases_eq}
use Rattle.structure.specs.Problem.{Numbers, Member, Within}

-- what a number adds to a count
abbrev one : Bool → ℕ
one b = cond b 1 0

-- how many numbers below n are in s
abbrev count : Numbers → ℕ → ℕ
count s zero = 0
count s (suc n) = one (s n) + count s n

-- at most n are
count_small : (s : Numbers) (n : ℕ) → count s n ≤ n
count_small s zero = omega arith
count_small s (suc n) = grind (arith, count_small s n)

-- of two sets of which the first lies in the second, the second has as many numbers below n, and no others, or more
abbrev SameOrMore : Numbers → Numbers → ℕ → Type 0
SameOrMore s t n = ((count s n ≡ count t n) × ((u : ℕ) → u < n → Member t u → Member s u)) ⊎ (count s n < count t n)

one_more : (a b : Bool) → (a ≡ true → b ≡ true) → ((one a ≡ one b) × (b ≡ true → a ≡ true)) ⊎ (one a < one b)
one_more true b h = inl (rw (h refl), λ e. refl)
one_more false true h = inr (omega arith)
one_more false false h = inl (refl, λ e. e)

same_or_more : (s t : Numbers) → Within s t → (n : ℕ) → SameOrMore s t n
same_or_more s t h zero = inl (refl, λ u l. absurd (omega arith))
same_or_more s t h (suc n) = go (one_more (s n) (t n) (h n)) (same_or_more s t h n)
  where
    go : ((one (s n) ≡ one (t n)) × (Member t n → Member s n)) ⊎ (one (s n) < one (t n)) → SameOrMore s t n → SameOrMore s t (suc n)
    go (inl here) (inl below) = inl (omega arith, λ u l i. elim (cases_eq u n) [ inl e ↦ rw e (here.1 (rw e at i)) | inr e ↦ below.1 u (omega arith) i ])
    go (inl here) (inr more) = inr (omega arith)
    go (inr more) (inl below) = inr (omega arith)
    go (inr here) (inr below) = inr (omega arith)

-- what never passes n, and rises until it stands still, stands still at n
still_at : (n : ℕ) (size : ℕ → ℕ) (Still : ℕ → Type 0) → ((k : ℕ) → size k ≤ n) → ((k : ℕ) → Still k ⊎ (size k < size (suc k))) →
    ((k : ℕ) → Still k → Still (suc k)) → Still n
still_at n size Still small rises stays = ⊎_elim (λ still. still) (λ large. absurd (omega (arith, small (suc n)))) (still_or_large n)
  where
    still_or_large : (k : ℕ) → Still k ⊎ (k < size (suc k))
    still_or_large zero = ⊎_elim inl (λ more. inr (omega arith)) (rises 0)
    still_or_large (suc k) = ⊎_elim (λ still. inl (stays k still)) (λ large. ⊎_elim inl (λ more. inr (omega arith)) (rises (suc k))) (still_or_large k)

-- a chain in which no set changes any more after two that are the same
module _ (n : ℕ) (s : ℕ → Numbers) (known : (k u : ℕ) → Member (s k) u → u < n) where
  -- each set lies in the next
  pub grown : ((k : ℕ) → Within (s k) (s (suc k))) → ((k : ℕ) → Within (s (suc k)) (s k) → Within (s (suc (suc k))) (s (suc k))) → Within (s (suc n)) (s n)
  grown grows =
      still_at n (λ k. count (s k) n) (λ k. Within (s (suc k)) (s k)) (λ k. count_small (s k) n)
      (λ k. ⊎_elim (λ same. inl (λ u i. same.1 u (known (suc k) u i) i)) inr (same_or_more (s k) (s (suc k)) (grows k) n))

  -- each set lies in the one before
  pub fallen : ((k : ℕ) → Within (s (suc k)) (s k)) → ((k : ℕ) → Within (s k) (s (suc k)) → Within (s (suc k)) (s (suc (suc k)))) → Within (s n) (s (suc n))
  fallen falls =
      still_at n (λ k. n - count (s k) n) (λ k. Within (s k) (s (suc k))) (λ k. omega arith)
      (λ k. ⊎_elim (λ same. inl (λ u i. same.1 u (known k u i) i)) (λ more. inr (omega (arith, count_small (s k) n)))
      (same_or_more (s (suc k)) (s k) (falls k) n))
