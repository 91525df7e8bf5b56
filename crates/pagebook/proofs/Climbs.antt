-- The list that the fields of a list stand for: how it is read, and what it keeps to. Assumes nothing.
use Rattle.std.proofs.Common.{◌≡◌, ℕ, zero, suc, ◌+◌, ◌*◌, ◌<◌, ◌≤◌, List, [], ◌∷◌, ◌++◌, length, get_or, take, drop, refl, ap, ◌∙◌, inl, arith}
use Rattle.std.specs.List.{AllByRecursion}
use Rattle.std.proofs.lemmas.List.{take_at, drop_at, drop-drop}
use Rattle.book.specs.Meaning.{Listed}
use Rattle.book.specs.Climbing.{climbing}
use Rattle.columns.specs.Columns.{blanks, column}
use Rattle.columns.proofs.Laws.{fits_five, length_column, shows_column}
use Rattle.page.specs.Layout.{number_width, list_fields}
use Rattle.page.specs.Format.{list_bytes}
use Rattle.page.specs.Checked.{Rising}
use Rattle.page.proofs.Lists.{listed, listed_more, listed_none, blanks_more}
use Rattle.pagebook.specs.Reading.{number_shown, numbers_in, list_in}
use Rattle.pagebook.specs.PageLaws.{climbing_on, climbing_off, climbing_by, climbing_short, length_numbers}
use Rattle.pagebook.proofs.Shown.{shown_number, blank_shown}

-- the numbers of a list that climbs rise
pub climbing_rises : (last highest : ℕ) (xs : List ℕ) → Rising last (climbing last highest xs)
climbing_rises last highest xs = climbing_by highest (λ last xs ys. Rising last ys) (λ last xs. tt) (λ last x xs ys above below h. (above, h)) last xs

-- the second list is a front of the first, place by place
abbrev Front : List ℕ → List ℕ → Type 0
Front xs ys = (k : ℕ) → k < length ys → get_or ys k 0 ≡ get_or xs k 0

-- such is a list that climbs: its k-th number is the k-th of all
pub climbing_at : (last highest : ℕ) (xs : List ℕ) (k : ℕ) → k < length (climbing last highest xs) → get_or (climbing last highest xs) k 0 ≡ get_or xs k 0
climbing_at last highest = climbing_by highest (λ last xs ys. Front xs ys) (λ last xs k h. absurd (omega arith)) more last where
  more : (last x : ℕ) (xs ys : List ℕ) → last < x → x ≤ highest → Front xs ys → Front (x ∷ xs) (x ∷ ys)
  more last x xs ys above below front zero h = refl
  more last x xs ys above below front (suc k) h = front k (omega arith)

-- the k-th is the number in the k-th field
pub numbers_at : (bytes : List ℕ) (c k : ℕ) → k < c → get_or (numbers_in bytes c) k 0 ≡ number_shown (take number_width (drop (number_width * k) bytes))
numbers_at bytes zero k h = absurd (omega arith)
numbers_at bytes (suc c) zero h = refl
numbers_at bytes (suc c) (suc k) h =
    let place : number_width + number_width * k ≡ number_width * suc k = omega arith in
    numbers_at (drop number_width bytes) c k (omega arith)
    ∙ ap (λ (bs : List ℕ). number_shown (take number_width bs)) (drop-drop (number_width * k) number_width bytes ∙ ap (λ i. drop i bytes) place)

-- a field in front of others
pub numbers_first : (part rest : List ℕ) (c : ℕ) → length part ≡ number_width → numbers_in (part ++ rest) (suc c) ≡ number_shown part ∷ numbers_in rest c
numbers_first part rest c wide =
    let first = take_at part rest number_width wide in
    let others = drop_at part rest number_width wide in
    cc

-- so a list that is read from its fields rises
pub list_rising : (l : ℕ) (bytes : List ℕ) → Rising 0 (list_in l bytes)
unfolding list_in
list_rising l bytes = climbing_rises 0 l (numbers_in bytes list_fields)

-- and its k-th number is the one in the k-th field
pub list_at : (l : ℕ) (bytes : List ℕ) (k : ℕ) → k < length (list_in l bytes) → get_or (list_in l bytes) k 0 ≡ number_shown (take number_width (drop (number_width * k) bytes))
unfolding list_in
list_at l bytes k h =
    let all = numbers_in bytes list_fields in
    climbing_at 0 l all k h ∙ numbers_at bytes list_fields k (omega (arith, climbing_short 0 l all, length_numbers bytes list_fields))

-- no list is read in blank fields
climbing_blanks : (c last l : ℕ) → climbing last l (numbers_in (blanks (number_width * c)) c) ≡ []
climbing_blanks zero last l = refl
climbing_blanks (suc c) last l =
    let rest = blanks (number_width * c) in
    ap (λ (bs : List ℕ). climbing last l (numbers_in bs (suc c))) (blanks_more c)
    ∙ (ap (climbing last l) (numbers_first (blanks number_width) rest c refl) ∙ climbing_off last l (number_shown (blanks number_width)) (numbers_in rest c) (inl (omega (arith, blank_shown))))

-- a list that was written in c fields is read there
climbing_listed : (l c last : ℕ) (xs : List ℕ) → l ≤ 512 → length xs ≤ c → AllByRecursion (λ x. (1 ≤ x) × (x ≤ l)) xs → Rising last xs → climbing last l (numbers_in (listed c xs) c) ≡ xs
climbing_listed l c last [] small few known rising = ap (λ (bs : List ℕ). climbing last l (numbers_in bs c)) (listed_none c) ∙ climbing_blanks c last l
climbing_listed l zero last (x ∷ xs) small few known rising = absurd (omega arith)
climbing_listed l (suc c) last (x ∷ xs) small few known rising =
    let fits = fits_five x (omega (arith, known.0.1)) in
    let wide = length_column number_width x fits in
    let others = numbers_in (listed c xs) c in
    let shown : number_shown (column number_width x) ≡ x = shown_number (column number_width x) x wide (shows_column number_width x fits) in
    ap (λ (bs : List ℕ). climbing last l (numbers_in bs (suc c))) (listed_more c x xs)
    ∙ (ap (climbing last l) (numbers_first (column number_width x) (listed c xs) c wide ∙ ap (λ n. n ∷ others) shown)
    ∙ (climbing_on last l x others rising.0 known.0.1 ∙ ap (λ (ys : List ℕ). x ∷ ys) (climbing_listed l c x xs small (omega arith) known.1 rising.1)))

-- so a list that a unit may have is read from its bytes
pub list_read : (l : ℕ) (xs : List ℕ) → l ≤ 512 → Listed l xs → Rising 0 xs → list_in l (list_bytes xs) ≡ xs
unfolding list_in
list_read l xs small listed rising = climbing_listed l list_fields 0 xs small listed.few listed.known rising
