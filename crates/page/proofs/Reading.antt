-- How the line reader goes through the fields of a line: one step for each field, whether it is right or wrong.
-- Assumes nothing.
use Rattle.std.proofs.Common.{◌≡◌, ℕ, zero, suc, ◌+◌, ◌-◌, ◌<◌, List, [], ◌∷◌, ◌++◌, length, get_or, take, drop, IsErrAnd, Ok, Err, Result, sym, refl, ap, ◌∙◌, subst, arith, length-append, length-drop}
use Rattle.std.proofs.lemmas.List.{drop-drop, drop-take, take_rest, take-take}
use Rattle.std.proofs.lemmas.Result.{err_from_is_err_and}
use Rattle.page.specs.Rules.{Field, Rule, Right, number}
use Rattle.page.specs.Faults.{columns_before, FieldRight, AllRight, FirstWrong}
use Rattle.page.specs.Readers.{FieldTold, NumberTold, at_column, LineTold, ListTold, WrongFrom}
use Rattle.page.specs.declared.field.FieldFault.{FieldFault}
use Rattle.page.specs.declared.line.LineFault.{LineFault}
use Rattle.page.proofs.Scan.{on_right, off_right, all_more, all_first, all_rest, wrong_here, wrong_later}

-- what is known of a field's answer is known of the value that the line reader goes on with
pub kept_value : {T : Type 0} (P : Result T FieldFault → Type 0) (column : ℕ) (read : Result T FieldFault) (x : T) → Ok x ≡ at_column column read → P read → P (Ok x)
kept_value P column (Ok y) x e p = let same : y ≡ x = cc in subst (λ v. P (Ok v)) same p
kept_value P column (Err f) x e p = let z : ◌≡◌ {A = ℕ} 0 1 = cc in absurd (omega arith)

-- what holds of the fault holds of what the exit of a `?` returns
pub at_exit : {T E : Type 0} (P : Result T E → Type 0) (r : Result T E) (y : E) → IsErrAnd r (λ e. e ≡ y) → P (Err y) → P r
at_exit P r y out p =
    let q = err_from_is_err_and r out in
    subst P (sym q.1) (subst (λ (e : _). P (Err e)) (sym q.2) p)

-- a whole line begins at column 1
pub whole_line : (fs : List Field) (line : List ℕ) (column : ℕ) → WrongFrom 1 fs line column → FirstWrong fs line column
whole_line fs line column w = let e : w.0 ≡ column = omega (arith, w.2) in subst (FirstWrong fs line) e w.1

-- a field's fault is the line's, at the field's column
pub field_exit : {T U : Type 0} (P : Result T FieldFault → Type 0) (fs : List Field) (line : List ℕ) (column : ℕ) (read : Result T FieldFault) (y : LineFault) (r : Result U LineFault) → Err y ≡ at_column column read → P read → IsErrAnd r (λ e. e ≡ y) → ((f : FieldFault) → P (Err f) → WrongFrom 1 fs line column) → LineTold fs line r
field_exit P fs line column (Ok x) y r e p out wrong = let z : ◌≡◌ {A = ℕ} 0 1 = cc in absurd (omega arith)
field_exit P fs line column (Err f) y r e p out wrong =
    let same : y ≡ record { column = column } = cc in
    at_exit (LineTold fs line) r y out (subst (λ (v : LineFault). FirstWrong fs line v.column) (sym same) (whole_line fs line column (wrong f p)))

-- the same in a list that begins at the column `first`
pub list_exit : {T U : Type 0} (P : Result T FieldFault → Type 0) (first : ℕ) (fs : List Field) (list : List ℕ) (column : ℕ) (read : Result T FieldFault) (y : LineFault) (r : Result U LineFault) → Err y ≡ at_column column read → P read → IsErrAnd r (λ e. e ≡ y) → ((f : FieldFault) → P (Err f) → WrongFrom first fs list column) → ListTold first fs list r
list_exit P first fs list column (Ok x) y r e p out wrong = let z : ◌≡◌ {A = ℕ} 0 1 = cc in absurd (omega arith)
list_exit P first fs list column (Err f) y r e p out wrong =
    let same : y ≡ record { column = column } = cc in
    at_exit (ListTold first fs list) r y out (subst (λ (v : LineFault). WrongFrom first fs list v.column) (sym same) (wrong f p))

-- the last field decides
pub told_last : {T : Type 0} (fs : List Field) (line : List ℕ) (column : ℕ) (rule : Rule) (part : List ℕ) (read : Result T FieldFault) (r : Result T LineFault) → r ≡ at_column column read → FieldTold rule part read → (Right rule part → AllRight fs line) → ((Right rule part → ⊥) → WrongFrom 1 fs line column) → LineTold fs line r
told_last fs line column rule part (Ok x) r e t right wrong = subst (LineTold fs line) (sym e) (right t)
told_last fs line column rule part (Err f) r e t right wrong = subst (LineTold fs line) (sym e) (whole_line fs line column (wrong t))

-- a line, split behind its first columns
pub record Split (width : ℕ) (line part rest : List ℕ) : Type 0 where
  pub front : part ≡ take width line
  pub back : rest ≡ drop width line

pub length_rest : {width : ℕ} {line part rest : List ℕ} → Split width line part rest → length rest ≡ length line - width
length_rest {width} {line} s = ap length s.back ∙ length-drop width line

-- the byte that a line begins with, as a field
pub first_byte : (line : List ℕ) → 0 < length line → get_or line 0 0 ∷ [] ≡ take 1 line
first_byte [] h = absurd (omega arith)
first_byte (x ∷ xs) h = refl

pub letter_split : (line : List ℕ) → 0 < length line → Split 1 line (get_or line 0 0 ∷ []) (drop 1 line)
letter_split line h = record { front = first_byte line h; back = refl }

-- the same, with the rest as a slice pattern has it
pub letter_rest : (line : List ℕ) → 0 < length line → Split 1 line (get_or line 0 0 ∷ []) (take (length line - 1) (drop 1 line))
letter_rest line h = record { front = first_byte line h; back = take_rest line 1 }

-- a number's field that was read is right
pub number_right : (low high : ℕ) (bytes : List ℕ) (n : ℕ) → NumberTold low high bytes (Ok n) → Right (number low high) bytes
number_right low high bytes n t = (n, t.0, t.1, t.2)

-- one field that is right, and then the others
pub right_more : (f : Field) (fs : List Field) {line part rest : List ℕ} → Split f.width line part rest → Right f.rule part → AllRight fs rest → AllRight (f ∷ fs) line
right_more f fs {line} s r a = all_more f fs line (subst (Right f.rule) s.front r) (subst (AllRight fs) s.back a)

pub wrong_more : (f : Field) (fs : List Field) {line part rest : List ℕ} (first column : ℕ) → Split f.width line part rest → Right f.rule part → WrongFrom (first + f.width) fs rest column → WrongFrom first (f ∷ fs) line column
wrong_more f fs {line} first column s r w = (
  f.width + w.0,
  wrong_later f fs line w.0 (subst (Right f.rule) s.front r) (subst (λ l. FirstWrong fs l w.0) s.back w.1),
  omega (arith, w.2),
)

-- the first field is wrong
pub wrong_now : (f : Field) (fs : List Field) {line part rest : List ℕ} (column : ℕ) → Split f.width line part rest → (Right f.rule part → ⊥) → WrongFrom column (f ∷ fs) line column
wrong_now f fs {line} column s n = (1, wrong_here f fs line (λ r. n (subst (Right f.rule) (sym s.front) r)), omega arith)

-- how many columns some fields take together
abbrev pub width_of : List Field → ℕ
width_of [] = 0
width_of (f ∷ fs) = f.width + width_of fs

-- a field of the front is the same field among all, and in the front of the line as in the line
in_front : (fs gs : List Field) (line : List ℕ) (i : ℕ) → i < length fs → FieldRight fs (take (width_of fs) line) i → FieldRight (fs ++ gs) line i
in_front [] gs line i h r = absurd (omega arith)
in_front (f ∷ fs) gs line zero h r = subst (Right f.rule) (take-take f.width (f.width + width_of fs) line (omega arith)) r
in_front (f ∷ fs) gs line (suc i) h r =
    on_right f (fs ++ gs) line i (in_front fs gs (drop f.width line) i (omega arith)
    (subst (λ l. FieldRight fs l i) (drop-take f.width (width_of fs) line) (off_right f fs (take (f.width + width_of fs) line) i r)))

from_front : (fs gs : List Field) (line : List ℕ) (i : ℕ) → i < length fs → FieldRight (fs ++ gs) line i → FieldRight fs (take (width_of fs) line) i
from_front [] gs line i h r = absurd (omega arith)
from_front (f ∷ fs) gs line zero h r = subst (Right f.rule) (sym (take-take f.width (f.width + width_of fs) line (omega arith))) r
from_front (f ∷ fs) gs line (suc i) h r =
    on_right f fs (take (f.width + width_of fs) line) i
    (subst (λ l. FieldRight fs l i) (sym (drop-take f.width (width_of fs) line)) (from_front fs gs (drop f.width line) i (omega arith) (off_right f (fs ++ gs) line i r)))

columns_front : (fs gs : List Field) (i : ℕ) → i < length fs → columns_before (fs ++ gs) i ≡ columns_before fs i
columns_front [] gs i h = absurd (omega arith)
columns_front (f ∷ fs) gs zero h = refl
columns_front (f ∷ fs) gs (suc i) h = ap (λ k. f.width + k) (columns_front fs gs i (omega arith))

-- a line of one field more, with the front split off behind them all
module _ (f : Field) (fs : List Field) (line : List ℕ) (all : AllRight (f ∷ fs) (take (f.width + width_of fs) line)) where
  head_right : Right f.rule (take f.width line)
  head_right = subst (Right f.rule) (take-take f.width (f.width + width_of fs) line (omega arith)) (all_first f fs (take (f.width + width_of fs) line) all)

  tail_right : AllRight fs (take (width_of fs) (drop f.width line))
  tail_right = subst (AllRight fs) (drop-take f.width (width_of fs) line) (all_rest f fs (take (f.width + width_of fs) line) all)

append_right : (fs gs : List Field) (line : List ℕ) → AllRight fs (take (width_of fs) line) → AllRight gs (drop (width_of fs) line) → AllRight (fs ++ gs) line
append_right [] gs line a b = b
append_right (f ∷ fs) gs line a b =
    all_more f (fs ++ gs) line (head_right f fs line a)
    (append_right fs gs (drop f.width line) (tail_right f fs line a) (subst (AllRight gs) (sym (drop-drop (width_of fs) f.width line)) b))

append_wrong : (fs gs : List Field) (line : List ℕ) (first next column : ℕ) → next ≡ first + width_of fs → AllRight fs (take (width_of fs) line) → WrongFrom next gs (drop (width_of fs) line) column → WrongFrom first (fs ++ gs) line column
append_wrong [] gs line first next column n a b = let e : next ≡ first = omega arith in subst (λ k. WrongFrom k gs line column) e b
append_wrong (f ∷ fs) gs line first next column n a b =
    wrong_more f (fs ++ gs) first column (record { front = refl; back = refl }) (head_right f fs line a)
    (append_wrong fs gs (drop f.width line) (first + f.width) next column (omega arith) (tail_right f fs line a)
    (subst (λ l. WrongFrom next gs l column) (sym (drop-drop (width_of fs) f.width line)) b))

-- some fields that are right, and then the others
pub right_append : (fs gs : List Field) {line part rest : List ℕ} → Split (width_of fs) line part rest → AllRight fs part → AllRight gs rest → AllRight (fs ++ gs) line
right_append fs gs {line} s a b = append_right fs gs line (subst (AllRight fs) s.front a) (subst (AllRight gs) s.back b)

pub wrong_append : (fs gs : List Field) {line part rest : List ℕ} (first column : ℕ) → Split (width_of fs) line part rest → AllRight fs part → WrongFrom (first + width_of fs) gs rest column → WrongFrom first (fs ++ gs) line column
wrong_append fs gs {line} first column s a b =
    append_wrong fs gs line first (first + width_of fs) column refl (subst (AllRight fs) s.front a) (subst (λ l. WrongFrom (first + width_of fs) gs l column) s.back b)

-- one of the first fields is wrong
pub wrong_part : (fs gs : List Field) {line part rest : List ℕ} (first column : ℕ) → Split (width_of fs) line part rest → WrongFrom first fs part column → WrongFrom first (fs ++ gs) line column
wrong_part fs gs {line} first column s w =
    let v = w.1 in
    let there : v.place < length (fs ++ gs) = simp length-append (omega (arith, v.there)) in (
      w.0,
      record {
        place = v.place;
        there = there;
        begins = v.begins ∙ ap (λ k. k + 1) (sym (columns_front fs gs v.place v.there));
        left_right = λ i h. in_front fs gs line i (omega (arith, v.there)) (subst (λ l. FieldRight fs l i) s.front (v.left_right i h));
        wrong = λ r. v.wrong (subst (λ l. FieldRight fs l v.place) (sym s.front) (from_front fs gs line v.place v.there r));
      },
      w.2,
    )
