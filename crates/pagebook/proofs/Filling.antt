-- What the bytes of a unit's line are while it is written: a letter, then its two lists, number by number. Assumes nothing.
use Rattle.std.proofs.Common.{◌≡◌, ℕ, ◌+◌, ◌-◌, ◌*◌, ◌<◌, ◌≤◌, List, [], ◌∷◌, ◌++◌, length, get_or, take, drop, set, sym, refl, ap, ◌∙◌, arith}
use Rattle.std.specs.List.{AllByRecursion}
use Rattle.std.proofs.ByRecursion.{All-get_or, All-take}
use Rattle.std.proofs.lemmas.List.{append_assoc, append-nil, length-append, length-set, length-take-le, length-drop, length_push, take-append-drop, take_more, drop-drop, drop-replicate, set_split}
use Rattle.book.specs.Meaning.{Fitted}
use Rattle.columns.specs.Columns.{blanks, column}
use Rattle.columns.proofs.Laws.{fits_five, length_column}
use Rattle.page.specs.Layout.{number_width, list_fields}
use Rattle.page.specs.Format.{number_fields, list_bytes}
use Rattle.pagebook.specs.Writes.{over, refitted}
use Rattle.pagebook.proofs.Overwritten.{length_over, over_behind, over_before, set_over}

-- a part written over a line that was just written is a part of that line
pub over_inside : (p q : ℕ) (part line bytes : List ℕ) → p + length line ≤ length bytes → q + length part ≤ length line → over (p + q) part (over p line bytes) ≡ over p (over q part line) bytes
over_inside p q part line bytes whole inside =
    let first = take p bytes in
    let rest = drop (p + length line) bytes in
    let long : length first ≡ p = length-take-le p bytes (omega arith) in
    over_behind first (line ++ rest) part q (p + q) (omega arith)
    ∙ (ap (λ (t : List ℕ). first ++ t) (over_before line rest part q inside)
    ∙ ap (λ i. first ++ (over q part line ++ drop (p + i) bytes)) (sym (length_over q part line inside)))

-- a part written right behind the first bytes
over_next : (first rest part left : List ℕ) (p : ℕ) → length first ≡ p → drop (length part) rest ≡ left → over p part (first ++ rest) ≡ first ++ (part ++ left)
over_next first rest part left p long e =
    let none : 0 + length part ≡ length part = omega arith in
    over_behind first rest part 0 p (omega arith) ∙ ap (λ (t : List ℕ). first ++ (part ++ t)) (ap (λ i. drop i rest) none ∙ e)

-- numbers in columns, with one more at the end
number_fields_push : (xs : List ℕ) (x : ℕ) → number_fields (xs ++ x ∷ []) ≡ number_fields xs ++ column number_width x
number_fields_push [] x = append-nil (column number_width x)
number_fields_push (y ∷ ys) x =
    ap (λ (t : List ℕ). column number_width y ++ t) (number_fields_push ys x)
    ∙ sym (append_assoc (column number_width y) (number_fields ys) (column number_width x))

-- they take five columns each
length_fields : (xs : List ℕ) → AllByRecursion (λ x. x < 100000) xs → length (number_fields xs) ≡ 5 * length xs
length_fields [] small = refl
length_fields (x ∷ xs) small =
    length-append (column number_width x) (number_fields xs)
    ∙ omega (arith, length_column number_width x (fits_five x small.0), length_fields xs small.1)

-- a number written into the first blank field behind a list makes the list longer by that number
list_push : (xs : List ℕ) (x : ℕ) → AllByRecursion (λ y. y < 100000) xs → x < 100000 → length xs < 8 → over (5 * length xs) (column number_width x) (list_bytes xs) ≡ list_bytes (xs ++ x ∷ [])
list_push xs x small low room =
    by (5 * (list_fields - length (xs ++ x ∷ []))) (omega (arith, length_push xs x, length_column number_width x (fits_five x low)))
  where
    by : (left : ℕ) → 5 * (8 - length xs) - length (column number_width x) ≡ left → over (5 * length xs) (column number_width x) (list_bytes xs) ≡ number_fields (xs ++ x ∷ []) ++ blanks left
    by left fewer =
        over_next (number_fields xs) (blanks (5 * (8 - length xs))) (column number_width x) (blanks left) (5 * length xs) (length_fields xs small)
        (drop-replicate (length (column number_width x)) (5 * (8 - length xs)) 32 ∙ ap blanks fewer)
        ∙ (sym (append_assoc (number_fields xs) (column number_width x) (blanks left)) ∙ ap (λ (t : List ℕ). t ++ blanks left) (sym (number_fields_push xs x)))

-- a list that is written number by number: with the next number the fields hold one number more
pub list_step : (xs : List ℕ) (i : ℕ) → length xs ≤ 8 → AllByRecursion (λ x. x < 100000) xs → i < length xs → over (5 * i) (column number_width (get_or xs i 0)) (list_bytes (take i xs)) ≡ list_bytes (take (i + 1) xs)
list_step xs i few small h =
    let x = get_or xs i 0 in
    let front = take i xs in
    let count : length front ≡ i = length-take-le i xs (omega arith) in
    let low = All-get_or (λ y. y < 100000) xs i 0 h small in
    ap (λ n. over (5 * n) (column number_width x) (list_bytes front)) (sym count)
    ∙ (list_push front x (All-take (λ y. y < 100000) i xs small) low (omega arith) ∙ ap list_bytes (sym (take_more xs i 0 h)))

-- two lists written into a line behind its number
lists_over : (letter : ℕ) (t a b : List ℕ) → length t ≡ 86 → length a ≡ 40 → length b ≡ 40 → over 46 b (over 6 a (letter ∷ t)) ≡ letter ∷ (take 5 t ++ (a ++ (b ++ drop 85 t)))
lists_over letter t a b long wide-a wide-b =
    let first = letter ∷ take 5 t in
    let six : length first ≡ 6 = omega (arith, length-take-le 5 t (omega arith)) in
    let inputs : over 6 a (letter ∷ t) ≡ first ++ (a ++ drop 45 t) =
    ap (λ (u : List ℕ). over 6 a (letter ∷ u)) (sym (take-append-drop 5 t))
    ∙ over_next first (drop 5 t) a (drop 45 t) 6 six (ap (λ i. drop i (drop 5 t)) wide-a ∙ drop-drop 40 5 t) in
    let outputs : over 46 b ((first ++ a) ++ drop 45 t) ≡ (first ++ a) ++ (b ++ drop 85 t) =
    over_next (first ++ a) (drop 45 t) b (drop 85 t) 46 (omega (arith, length-append first a)) (ap (λ i. drop i (drop 45 t)) wide-b ∙ drop-drop 40 45 t) in
    ap (over 46 b) (inputs ∙ sym (append_assoc first a (drop 45 t))) ∙ (outputs ∙ append_assoc first a (b ++ drop 85 t))

-- so a unit's line of which the letter and then both lists are written is the line refitted
pub refitted_written : (start letter : ℕ) (f : Fitted) (bytes : List ℕ) → start + 87 ≤ length bytes → length (list_bytes f.inputs) ≡ 40 → length (list_bytes f.outputs) ≡ 40
    → over (start + 46) (list_bytes f.outputs) (over (start + 6) (list_bytes f.inputs) (set bytes start letter)) ≡ over start (refitted letter f (take 87 (drop start bytes))) bytes
refitted_written start letter f bytes whole wide-a wide-b =
    let a = list_bytes f.inputs in
    let b = list_bytes f.outputs in
    let old = take 87 (drop start bytes) in
    let long : length old ≡ 87 = length-take-le 87 (drop start bytes) (omega (arith, length-drop start bytes)) in
    let lettered = set old 0 letter in
    let long_0 : length lettered ≡ 87 = length-set old 0 letter ∙ long in
    let long_1 : length (over 6 a lettered) ≡ 87 = length_over 6 a lettered (omega arith) ∙ long_0 in
    let line : over 46 b (over 6 a lettered) ≡ refitted letter f old =
    ap (λ (u : List ℕ). over 46 b (over 6 a u)) (set_split old 0 letter (omega arith))
    ∙ (lists_over letter (drop 1 old) a b (omega (arith, length-drop 1 old)) wide-a wide-b
    ∙ ap (λ (u : List ℕ). letter ∷ (take 5 (drop 1 old) ++ (a ++ (b ++ u)))) (drop-drop 85 1 old)) in
    ap (λ (u : List ℕ). over (start + 46) b (over (start + 6) a u)) (set_over bytes start 87 letter (omega arith) whole)
    ∙ (ap (over (start + 46) b) (over_inside start 6 a lettered bytes (omega arith) (omega arith))
    ∙ (over_inside start 46 b (over 6 a lettered) bytes (omega arith) (omega arith) ∙ ap (λ (u : List ℕ). over start u bytes) line))
