-- Lists that climb: how a loop goes along one, when a list climbs as a whole, and what a row's entries stand for.
use Rattle.std.proofs.Common.{◌≡◌, ℕ, zero, suc, ◌-◌, ◌<◌, ◌≤◌, Bool, ◌&&◌, eqb, ltb, leb, ◌⊎◌, List, [], ◌∷◌, ◌++◌, length, get_or, take, drop, replicate, sym, ap, ◌∙◌, refl, true, false, inl, ⊎_elim, arith, length-append}
use Rattle.std.proofs.lemmas.List.{at_drop_more, take_all, append-nil, length-replicate}
use Rattle.std.proofs.lemmas.Bool.{and_left, and_right, and_parts, cond-true, cond-false, cond_both, le-ltb, lt-leb, leb-true, ne_eqb}
use Rattle.std.proofs.lemmas.Bool.Decides.{nat_tests}
use Rattle.std.proofs.Math.Bool.{and_assoc}
use Rattle.book.specs.Declined.{climbs, fitting}
use Rattle.book.specs.Climbing.{climbing}
use Rattle.table.specs.Rows.{places, list_in, entries_of}

-- the number x may come after `last` in a list of numbers up to `highest`
abbrev next : (last highest x : ℕ) → Bool
next last highest x = ltb last x && leb x highest

next_no : (last highest x : ℕ) → (x ≤ last) ⊎ (highest < x) → next last highest x ≡ false
next_no last highest x =
    ⊎_elim (λ (h : x ≤ last). and_left (ltb last x) (leb x highest) (le-ltb last x h))
    (λ (h : highest < x). and_right (ltb last x) (leb x highest) (lt-leb x highest h))

-- a walk along a list has passed i numbers, the last of them `last`: with the front of what is left they are the whole front
abbrev pub Passed : (highest : ℕ) (xs : List ℕ) (last i : ℕ) → Type 0
Passed highest xs last i = take i xs ++ climbing last highest (drop i xs) ≡ climbing 0 highest xs

-- it stops at a number that may not come next
pub passed_stops : (highest : ℕ) (xs : List ℕ) (last i : ℕ) → Passed highest xs last i → i < length xs → (get_or xs i 0 ≤ last) ⊎ (highest < get_or xs i 0) → take i xs ≡ climbing 0 highest xs
passed_stops highest xs last i so_far here out =
    let stop = at_drop_more (climbing last highest) xs i 0 here ∙ cond-false _ _ _ (next_no last highest (get_or xs i 0) out) in
    sym (append-nil (take i xs)) ∙ ap (λ ys. take i xs ++ ys) (sym stop) ∙ so_far

-- a front has the list's own numbers
pub climbing_get_or : (last highest : ℕ) (xs : List ℕ) (i : ℕ) → i < length (climbing last highest xs) → get_or (climbing last highest xs) i 0 ≡ get_or xs i 0
climbing_get_or last highest [] i = λ h. refl
climbing_get_or last highest (x ∷ xs) zero =
    cond_both (next last highest x) (x ∷ climbing x highest xs) [] (λ ys. 0 < length ys → get_or ys 0 0 ≡ x)
    (λ _ _. refl)
    (λ _ h. absurd (omega arith))
climbing_get_or last highest (x ∷ xs) (suc i) =
    cond_both (next last highest x) (x ∷ climbing x highest xs) [] (λ ys. suc i < length ys → get_or ys (suc i) 0 ≡ get_or xs i 0)
    (λ _ h. climbing_get_or x highest xs i (omega arith))
    (λ _ h. absurd (omega arith))

-- a list climbs where its first number may come next and the others climb from there
climbs_next : (last highest x : ℕ) (xs : List ℕ) → climbs last highest (x ∷ xs) ≡ (next last highest x && climbs x highest xs)
climbs_next last highest x xs = sym (and_assoc (ltb last x) (leb x highest) (climbs x highest xs))

-- one more on either side changes no test of equality
eqb_suc : (a b : ℕ) → eqb (suc a) (suc b) ≡ eqb a b
eqb_suc a b = grind (arith, nat_tests)

-- so a list climbs exactly where its front is as long as it
pub climbs_whole : (last highest : ℕ) (xs : List ℕ) → eqb (length (climbing last highest xs)) (length xs) ≡ climbs last highest xs
climbs_whole last highest [] = refl
climbs_whole last highest (x ∷ xs) =
    let P : List ℕ → Type 0 = λ ys. eqb (length ys) (suc (length xs)) ≡ climbs last highest (x ∷ xs) in
    cond_both (next last highest x) (x ∷ climbing x highest xs) [] P
    (λ e.
    eqb_suc (length (climbing x highest xs)) (length xs)
    ∙ climbs_whole x highest xs
    ∙ sym (climbs_next last highest x xs ∙ ap (λ b. b && climbs x highest xs) e))
    (λ e.
    ne_eqb 0 (suc (length xs)) (λ z. omega arith)
    ∙ sym (climbs_next last highest x xs ∙ ap (λ b. b && climbs x highest xs) e))

-- such a list is its own front, whatever zeros follow
climbing_zeros : (last highest n : ℕ) → climbing last highest (replicate n 0) ≡ []
climbing_zeros last highest zero = refl
climbing_zeros last highest (suc n) = cond-false _ _ _ (next_no last highest 0 (inl (omega arith)))

climbing_padded : (last highest : ℕ) (xs : List ℕ) (n : ℕ) → climbs last highest xs ≡ true → climbing last highest (xs ++ replicate n 0) ≡ xs
climbing_padded last highest [] n h = climbing_zeros last highest n
climbing_padded last highest (x ∷ xs) n h =
    let p = and_parts (next last highest x) (climbs x highest xs) (sym (climbs_next last highest x xs) ∙ h) in
    cond-true _ _ _ p.0 ∙ ap (λ ys. x ∷ ys) (climbing_padded x highest xs n p.1)

-- a list that may be fitted is short, and a row reads it back
pub fitting_short : (l : ℕ) (xs : List ℕ) → fitting l xs ≡ true → length xs ≤ 8
fitting_short l xs h = leb-true (length xs) 8 (and_parts (leb (length xs) 8) (climbs 0 l xs) h).0

pub list_in_all : (l : ℕ) (entries : List ℕ) → length entries ≡ 8 → list_in l entries ≡ climbing 0 l entries
list_in_all l entries h = ap (climbing 0 l) (take_all places entries (omega arith))

-- a list that is read from eight entries has their own numbers
pub list_in_get_or : (l : ℕ) (entries : List ℕ) (i : ℕ) → length entries ≡ 8 → i < length (list_in l entries) → get_or (list_in l entries) i 0 ≡ get_or entries i 0
list_in_get_or l entries i h here =
    climbing_get_or 0 l (take places entries) i here ∙ ap (λ xs. get_or xs i 0) (take_all places entries (omega arith))

-- and a list that is written into entries is read back
pub list_in_entries : (l : ℕ) (xs : List ℕ) → fitting l xs ≡ true → list_in l (entries_of xs) ≡ xs
list_in_entries l xs h =
    let short = fitting_short l xs h in
    let size : length (entries_of xs) ≡ 8 = simp (length-append, length-replicate) (omega arith) in
    list_in_all l (entries_of xs) size
    ∙ climbing_padded 0 l xs (places - length xs) (and_parts (leb (length xs) 8) (climbs 0 l xs) h).1
