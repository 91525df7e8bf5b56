-- The two lists of a unit's line: eight fields each, which hold a strictly ascending list and blanks after it. Assumes nothing.
use Rattle.std.proofs.Common.{◌≡◌, ℕ, zero, suc, ◌+◌, ◌-◌, ◌*◌, ◌<◌, ◌≤◌, List, [], ◌∷◌, ◌++◌, map, length, take, drop, Some, None, Option, sym, refl, ap, ◌∙◌, subst, inl, inr, add-one, arith}
use Rattle.std.specs.List.{range_with_len, AllByRecursion}
use Rattle.std.proofs.lemmas.List.{append_assoc, length-append, length-replicate, length-take-le, length-drop, drop-drop, take_at, drop_at, nil_from_length, replicate-append-replicate}
use Rattle.columns.specs.Columns.{blanks, column, Shows}
use Rattle.columns.proofs.Laws.{fits_five, length_column, shows_column, same_shown, shown_not_blank}
use Rattle.page.specs.Layout.{number_width}
use Rattle.page.specs.Format.{number_fields, list_bytes}
use Rattle.page.specs.Rules.{Field, entry, Right, Follows, before, entry_field, entry_fields}
use Rattle.page.specs.Faults.{AllRight}
use Rattle.page.specs.Checked.{Rising}
use Rattle.page.proofs.Scan.{all_none, all_first, all_rest}
use Rattle.page.proofs.Joins.{field_then, halves}

-- a list in c fields: it fills its first fields, and the others are blank
abbrev pub listed : ℕ → List ℕ → List ℕ
listed c xs = number_fields xs ++ blanks (number_width * (c - length xs))

-- a list of one more, in one field more
pub listed_more : (c x : ℕ) (xs : List ℕ) → listed (suc c) (x ∷ xs) ≡ column number_width x ++ listed c xs
listed_more c x xs =
    let e : suc c - suc (length xs) ≡ c - length xs = omega arith in
    append_assoc (column number_width x) (number_fields xs) (blanks (number_width * (suc c - suc (length xs))))
    ∙ ap (λ k. column number_width x ++ (number_fields xs ++ blanks (number_width * k))) e

-- no list, in c fields
pub listed_none : (c : ℕ) → listed c [] ≡ blanks (number_width * c)
listed_none c = ap (λ k. blanks (number_width * k)) (omega arith)

-- one blank field more
pub blanks_more : (c : ℕ) → blanks (number_width * suc c) ≡ blanks number_width ++ blanks (number_width * c)
blanks_more c =
    let e : number_width * suc c ≡ number_width + number_width * c = omega arith in
    ap blanks e ∙ sym (replicate-append-replicate number_width (number_width * c) 32)

-- c fields are as wide as they should be
pub length_listed : (c : ℕ) (xs : List ℕ) → length xs ≤ c → AllByRecursion (λ x. x < 100000) xs → length (listed c xs) ≡ number_width * c
length_listed c [] few small = ap length (listed_none c) ∙ length-replicate (number_width * c) 32
length_listed zero (x ∷ xs) few small = absurd (omega arith)
length_listed (suc c) (x ∷ xs) few small =
    ap length (listed_more c x xs)
    ∙ (length-append (column number_width x) (listed c xs) ∙ omega (arith, length_column number_width x (fits_five x small.0), length_listed c xs (omega arith) small.1))

-- and so are the eight of a list
pub length_list_bytes : (xs : List ℕ) → length xs ≤ 8 → AllByRecursion (λ x. x < 100000) xs → length (list_bytes xs) ≡ 40
length_list_bytes xs few small = length_listed 8 xs few small

-- a field of a list after `front`
abbrev pub field_after : ℕ → Option (List ℕ) → Field
field_after highest front = record { width = number_width; rule = entry highest front }

-- the fields of a list from some place on, by what is left: c fields over these bytes, the first of them after `front`
abbrev pub chained : ℕ → Option (List ℕ) → List ℕ → ℕ → List Field
chained highest front rest zero = []
chained highest front rest (suc c) = field_after highest front ∷ chained highest (Some (take number_width rest)) (drop number_width rest) c

-- they are the fields that are given by their places
pub fields_chained : (highest : ℕ) (list : List ℕ) (i c : ℕ) → map (entry_field highest list) (range_with_len i c) ≡ chained highest (before list i) (drop (number_width * i) list) c
fields_chained highest list i zero = refl
fields_chained highest list i (suc c) =
    let place : number_width * (i + 1) ≡ number_width * i + number_width = omega arith in
    let front : before list (i + 1) ≡ before list (suc i) = ap (before list) (add-one i) in
    let rest : drop (number_width * (i + 1)) list ≡ drop number_width (drop (number_width * i) list) = ap (λ k. drop k list) place ∙ sym (drop-drop number_width (number_width * i) list) in
    let others = fields_chained highest list (i + 1) c in
    cc

-- so are all eight fields of a list
pub entry_chained : (highest : ℕ) (list : List ℕ) → entry_fields highest list ≡ chained highest None list 8
entry_chained highest list = fields_chained highest list 0 8

-- what five columns show is written in five columns
pub column_from_shows : (part : List ℕ) (n : ℕ) → length part ≡ number_width → Shows part n → part ≡ column number_width n
column_from_shows part n wide s = s.written ∙ ap (λ w. column w n) wide

-- a list of numbers from 1 to `highest`, each above the one before it and the first above `last`, as it stands in the bytes of c fields
pub record ListIn (highest last c : ℕ) (part : List ℕ) : Type 0 where
  pub numbers : List ℕ
  pub few : length numbers ≤ c
  pub known : AllByRecursion (λ x. (1 ≤ x) × (x ≤ highest)) numbers
  pub rising : Rising last numbers
  pub written : part ≡ listed c numbers

-- of c fields and one more, the first is one field wide
wide_first : (c : ℕ) (rest : List ℕ) → length rest ≡ number_width * suc c → length (take number_width rest) ≡ number_width
wide_first c rest wide = length-take-le number_width rest (omega arith)

-- and what is left is as wide as c fields
wide_rest : (c : ℕ) (rest : List ℕ) → length rest ≡ number_width * suc c → length (drop number_width rest) ≡ number_width * c
wide_rest c rest wide = omega (arith, length-drop number_width rest)

-- no number may follow a blank field
after_blank : (part : List ℕ) → length part ≡ number_width → part ≡ blanks number_width → (n : ℕ) → Follows (Some part) n → ⊥
after_blank part wide blank n f = shown_not_blank part f.0 f.1 (blank ∙ ap blanks (sym wide))

-- only a number above m may follow a field that shows m
after_number : (part : List ℕ) (m : ℕ) → Shows part m → (n : ℕ) → Follows (Some part) n → m < n
after_number part m s n f = omega (arith, same_shown part m f.0 s f.1, f.2)

-- from right fields to the list
module _ (highest : ℕ) where
  -- after a field that no number may follow, only blanks
  only_blanks : (c : ℕ) (front : Option (List ℕ)) (rest : List ℕ) → ((n : ℕ) → Follows front n → ⊥) → length rest ≡ number_width * c → AllRight (chained highest front rest c) rest → rest ≡ blanks (number_width * c)
  only_blanks zero front rest last wide all = nil_from_length rest wide
  only_blanks (suc c) front rest last wide all =
      let part = take number_width rest in
      let behind = chained highest (Some part) (drop number_width rest) c in
      let field = field_after highest front in
      elim (all_first field behind rest all) [
        | inl blank ↦
            let more = only_blanks c (Some part) (drop number_width rest) (after_blank part (wide_first c rest wide) blank) (wide_rest c rest wide) (all_rest field behind rest all) in
            halves number_width rest (blanks number_width) (blanks (number_width * c)) blank more ∙ sym (blanks_more c)
        | inr s ↦ absurd (last s.0 s.3)
      ]

  -- after a field that only a number above `last` may follow, a list above `last`
  list_in : (c last : ℕ) (front : Option (List ℕ)) (rest : List ℕ) → ((n : ℕ) → Follows front n → last < n) → length rest ≡ number_width * c → AllRight (chained highest front rest c) rest → ListIn highest last c rest
  list_in zero last front rest above wide all = record {
    numbers = [];
    few = omega arith;
    known = tt;
    rising = tt;
    written = nil_from_length rest wide ∙ sym (listed_none 0);
  }
  list_in (suc c) last front rest above wide all =
      let part = take number_width rest in
      let behind = chained highest (Some part) (drop number_width rest) c in
      let field = field_after highest front in
      let narrow = wide_first c rest wide in
      elim (all_first field behind rest all) [
        | inl blank ↦
            let more = only_blanks c (Some part) (drop number_width rest) (after_blank part narrow blank) (wide_rest c rest wide) (all_rest field behind rest all) in
            record {
              numbers = [];
              few = omega arith;
              known = tt;
              rising = tt;
              written = halves number_width rest (blanks number_width) (blanks (number_width * c)) blank more ∙ (sym (blanks_more c) ∙ sym (listed_none (suc c)));
            }
        | inr s ↦
            let x = s.0 in
            let more = list_in c x (Some part) (drop number_width rest) (after_number part x s.1) (wide_rest c rest wide) (all_rest field behind rest all) in
            let over : last < x = above x s.3 in
            record {
              numbers = x ∷ more.numbers;
              few = omega (arith, more.few);
              known = ((omega arith, s.2), more.known);
              rising = (over, more.rising);
              written = halves number_width rest (column number_width x) (listed c more.numbers) (column_from_shows part x narrow s.1) more.written ∙ sym (listed_more c x more.numbers);
            }
      ]

-- eight fields that keep to their rules are a strictly ascending list in its first fields, blanks after it
pub list_from_right : (highest : ℕ) (part : List ℕ) → length part ≡ 40 → AllRight (entry_fields highest part) part → ListIn highest 0 8 part
list_from_right highest part wide all =
    list_in highest 8 0 None part (λ n h. h) wide (subst (λ (fs : List Field). AllRight fs part) (entry_chained highest part) all)

-- from the list to right fields
module _ (highest : ℕ) where
  -- a field in front of more
  chained_more : (c : ℕ) (front : Option (List ℕ)) (part rest : List ℕ) → length part ≡ number_width → Right (entry highest front) part → AllRight (chained highest (Some part) rest c) rest → AllRight (chained highest front (part ++ rest) (suc c)) (part ++ rest)
  chained_more c front part rest wide r more =
      let t = take_at part rest number_width wide in
      let d = drop_at part rest number_width wide in
      let same : chained highest front (part ++ rest) (suc c) ≡ field_after highest front ∷ chained highest (Some part) rest c = cc in
      subst (λ (fs : List Field). AllRight fs (part ++ rest)) (sym same) (field_then (field_after highest front) (chained highest (Some part) rest c) part rest wide r more)

  -- blank fields are right after anything
  blanks_right : (c : ℕ) (front : Option (List ℕ)) → AllRight (chained highest front (blanks (number_width * c)) c) (blanks (number_width * c))
  blanks_right zero front = all_none []
  blanks_right (suc c) front =
      subst (λ (b : List ℕ). AllRight (chained highest front b (suc c)) b) (sym (blanks_more c)) (chained_more c front (blanks number_width) (blanks (number_width * c)) refl (inl refl) (blanks_right c (Some (blanks number_width))))

  -- a list above `last` is right after a field that any number above `last` may follow
  listed_right : highest < 100000 → (c last : ℕ) (front : Option (List ℕ)) (xs : List ℕ) → ((n : ℕ) → last < n → Follows front n) → length xs ≤ c → AllByRecursion (λ x. (1 ≤ x) × (x ≤ highest)) xs → Rising last xs → AllRight (chained highest front (listed c xs) c) (listed c xs)
  listed_right small c last front [] above few known rising =
      subst (λ (b : List ℕ). AllRight (chained highest front b c) b) (sym (listed_none c)) (blanks_right c front)
  listed_right small zero last front (x ∷ xs) above few known rising = absurd (omega arith)
  listed_right small (suc c) last front (x ∷ xs) above few known rising =
      let fits = fits_five x (omega (arith, known.0.1)) in
      let shown = shows_column number_width x fits in
      let more = listed_right small c x (Some (column number_width x)) xs (λ n h. (x, shown, h)) (omega arith) known.1 rising.1 in
      let whole = chained_more c front (column number_width x) (listed c xs) (length_column number_width x fits) (inr (x, shown, known.0.1, above x rising.0)) more in
      subst (λ (b : List ℕ). AllRight (chained highest front b (suc c)) b) (sym (listed_more c x xs)) whole

-- the eight fields of a strictly ascending list keep to their rules
pub right_from_list : (highest : ℕ) (xs : List ℕ) → highest < 100000 → length xs ≤ 8 → AllByRecursion (λ x. (1 ≤ x) × (x ≤ highest)) xs → Rising 0 xs → AllRight (entry_fields highest (list_bytes xs)) (list_bytes xs)
right_from_list highest xs small few known rising =
    subst (λ (fs : List Field). AllRight fs (list_bytes xs)) (sym (entry_chained highest (list_bytes xs)))
    (listed_right highest small 8 0 None xs (λ n h. h) few known rising)
