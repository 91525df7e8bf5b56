-- The fields of a list, one after another: what the reader has to know of the field before. Assumes nothing.
use Rattle.std.proofs.Common.{◌≡◌, ℕ, ◌++◌, zero, suc, ◌+◌, ◌-◌, ◌*◌, ◌<◌, ◌≤◌, List, map, length, take, drop, Some, None, Ok, Err, Option, sym, refl, ap, ◌∙◌, subst, inl, inr, add-one, arith, length-append, length-drop, below_more}
use Rattle.std.proofs.lemmas.List.{take_at, drop_at, drop-drop}
use Rattle.std.proofs.lemmas.List.FromFn.{get_or-map-range_with_len}
use Rattle.std.specs.List.{range_with_len}
use Rattle.columns.specs.Columns.{blanks, Shows}
use Rattle.columns.proofs.Laws.{same_shown, shown_not_blank}
use Rattle.page.specs.Layout.{number_width}
use Rattle.page.specs.Rules.{Field, Right, entry, before, entry_field, entry_fields, newline_field}
use Rattle.page.specs.Faults.{columns_before, field_at, FieldRight, AllRight}
use Rattle.page.specs.Readers.{MayStand, EntryTold, WrongFrom}
use Rattle.page.specs.declared.field.FieldFault.{FieldFault}

-- what is kept of the field before: 0 at the first field, the number that it shows, or nothing where it is blank
abbrev pub Left : Option (List ℕ) → Option ℕ → Type 0
Left None above = above ≡ Some 0
Left (Some bytes) (Some last) = Shows bytes last
Left (Some bytes) None = bytes ≡ blanks number_width

-- what may stand there by what is kept is what may follow the field before, and the other way round
right_stands : (highest : ℕ) (previous : Option (List ℕ)) (above : Option ℕ) (bytes : List ℕ) (n : ℕ) → Left previous above → Shows bytes n → MayStand highest above n → Right (entry highest previous) bytes
right_stands highest None (Some y) bytes n e s h = let z : y ≡ 0 = cc in inr (n, s, h.1, omega (arith, h.0))
right_stands highest None None bytes n e s h = absurd h
right_stands highest (Some b) (Some y) bytes n e s h = inr (n, s, h.1, (y, e, h.0))
right_stands highest (Some b) None bytes n e s h = absurd h

pub entry_right : (highest : ℕ) (previous : Option (List ℕ)) (above : Option ℕ) (bytes : List ℕ) (kept : Option ℕ) → Left previous above → EntryTold highest above bytes (Ok kept) → Right (entry highest previous) bytes × Left (Some bytes) kept
entry_right highest previous above bytes (Some n) e t = (right_stands highest previous above bytes n e t.0 t.1, t.0)
entry_right highest previous above bytes None e t = (inl t, t)

not_blank : (b : List ℕ) (m : ℕ) → Shows b m → b ≡ blanks number_width → ⊥
not_blank b m s e = shown_not_blank b m s (e ∙ ap blanks (sym (ap length e)))

pub entry_wrong : (highest : ℕ) (previous : Option (List ℕ)) (above : Option ℕ) (bytes : List ℕ) (fault : FieldFault) → Left previous above → EntryTold highest above bytes (Err fault) → Right (entry highest previous) bytes → ⊥
entry_wrong highest previous above bytes fault e t (inl blank) = t.0 blank
entry_wrong highest None above bytes fault e t (inr (n, s, le, f)) = t.1 n s (subst (λ a. MayStand highest a n) (sym e) (omega arith, le))
entry_wrong highest (Some b) (Some y) bytes fault e t (inr (n, s, le, (m, shown, less))) = let same = same_shown b m y shown e in t.1 n s (omega arith, le)
entry_wrong highest (Some b) None bytes fault e t (inr (n, s, le, (m, shown, less))) = not_blank b m shown e

-- where the i-th field of a list begins
columns_counting : (g : ℕ → Field) → ((k : ℕ) → (g k).width ≡ number_width) → (a n i : ℕ) → i ≤ n → columns_before (map g (range_with_len a n)) i ≡ number_width * i
columns_counting g w a zero i h = omega arith
columns_counting g w a (suc n) zero h = refl
columns_counting g w a (suc n) (suc i) h = omega (arith, w a, columns_counting g w (a + 1) n i (omega arith))

module _ (highest : ℕ) (list : List ℕ) (i : ℕ) (h : i < 8) where
  pub entry_begins : columns_before (entry_fields highest list) i ≡ number_width * i
  entry_begins = columns_counting (entry_field highest list) (λ k. refl) 0 8 i (omega arith)

  entry_at : field_at (entry_fields highest list) i ≡ entry_field highest list i
  entry_at = get_or-map-range_with_len (entry_field highest list) 0 8 i i newline_field h (omega arith)

  -- the i-th field of a list keeps to its rule: what that says
  pub entry_is : FieldRight (entry_fields highest list) list i ≡ Right (entry highest (before list i)) (take number_width (drop (number_width * i) list))
  entry_is =
      ap (λ (f : Field). Right f.rule (take f.width (drop (columns_before (entry_fields highest list) i) list))) entry_at
      ∙ ap (λ k. Right (entry highest (before list i)) (take number_width (drop k list))) entry_begins

-- how far a list is read: the fields before the n-th are right, `above` is kept of the last of them, and the rest, which
-- comes in chunks of `width`, is still to be read
pub record ReadTo (highest : ℕ) (list : List ℕ) (n : ℕ) (above : Option ℕ) (width : ℕ) (rest : List ℕ) : Type 0 where
  pub kept : Left (before list n) above
  pub right : (k : ℕ) → k < n → FieldRight (entry_fields highest list) list k
  pub field_wide : width ≡ number_width
  pub left : rest ≡ drop (number_width * n) list

-- one turn of the reader's loop: the next chunk is split off
module _ (highest : ℕ) (list : List ℕ) (n : ℕ) (above : Option ℕ) (width : ℕ) (rest field others : List ℕ) (whole : length list ≡ 40) (r : ReadTo highest list n above width rest) (split : rest ≡ field ++ others) (wide : length field ≡ width) where
  here : n < 8
  here =
      let long : length field + length others ≡ length list - number_width * n = sym (length-append field others) ∙ (ap length (sym split ∙ r.left) ∙ length-drop (number_width * n) list) in
      omega (arith, long, whole, wide, r.field_wide)

  -- the chunk is the n-th field
  abbrev nth : List ℕ
  nth = take number_width (drop (number_width * n) list)

  cut : field ≡ nth
  cut = sym (take_at field others number_width (wide ∙ r.field_wide)) ∙ ap (take number_width) (sym split ∙ r.left)

  behind : others ≡ drop (number_width * (n + 1)) list
  behind =
      let next : number_width * n + number_width ≡ number_width * (n + 1) = omega arith in
      sym (drop_at field others number_width (wide ∙ r.field_wide)) ∙ (ap (drop number_width) (sym split ∙ r.left) ∙ (drop-drop number_width (number_width * n) list ∙ ap (λ k. drop k list) next))

  pub entry_again : (kept : Option ℕ) → EntryTold highest above field (Ok kept) → ReadTo highest list (n + 1) kept width others
  entry_again kept t =
      let p = entry_right highest (before list n) above nth kept r.kept (subst (λ bytes. EntryTold highest above bytes (Ok kept)) cut t) in
      record {
        kept = subst (λ j. Left (before list j) kept) (sym (add-one n)) p.1;
        right = below_more _ _ r.right (subst (λ (X : Type 0). X) (sym (entry_is highest list n here)) p.0);
        field_wide = r.field_wide;
        left = behind;
      }

  pub entry_fault : (first : ℕ) (fault : FieldFault) → EntryTold highest above field (Err fault) → WrongFrom first (entry_fields highest list) list (first + number_width * n)
  entry_fault first fault t =
      let wrong = entry_wrong highest (before list n) above nth fault r.kept (subst (λ bytes. EntryTold highest above bytes (Err fault)) cut t) in (
        number_width * n + 1,
        record {
          place = n;
          there = here;
          begins = ap (λ k. k + 1) (sym (entry_begins highest list n here));
          left_right = r.right;
          wrong = λ x. wrong (subst (λ (X : Type 0). X) (entry_is highest list n here) x);
        },
        omega arith,
      )

-- no whole field is left
pub all_read : (highest : ℕ) (list : List ℕ) (n : ℕ) (above : Option ℕ) (width : ℕ) (rest : List ℕ) → length list ≡ 40 → ReadTo highest list n above width rest → length rest < width → AllRight (entry_fields highest list) list
all_read highest list n above width rest whole r short i h = r.right i (omega (arith, h, whole, short, r.field_wide, ap length r.left, length-drop (number_width * n) list))
