-- Walking through the fields of a line from the left. Assumes nothing.
use Rattle.std.proofs.Common.{ℕ, zero, suc, ◌+◌, ◌<◌, List, [], ◌∷◌, take, drop, sym, refl, subst, arith}
use Rattle.std.proofs.lemmas.List.{drop-drop}
use Rattle.page.specs.Rules.{Field, Right}
use Rattle.page.specs.Faults.{columns_before, field_at, FieldRight, AllRight, FirstWrong}

-- a field further on, seen from behind the first
pub on_right : (f : Field) (fs : List Field) (line : List ℕ) (i : ℕ) → FieldRight fs (drop f.width line) i → FieldRight (f ∷ fs) line (suc i)
on_right f fs line i r = subst (λ t. Right (field_at fs i).rule (take (field_at fs i).width t)) (drop-drop (columns_before fs i) f.width line) r

pub off_right : (f : Field) (fs : List Field) (line : List ℕ) (i : ℕ) → FieldRight (f ∷ fs) line (suc i) → FieldRight fs (drop f.width line) i
off_right f fs line i r = subst (λ t. Right (field_at fs i).rule (take (field_at fs i).width t)) (sym (drop-drop (columns_before fs i) f.width line)) r

pub all_none : (line : List ℕ) → AllRight [] line
all_none line i h = absurd (omega arith)

pub all_more : (f : Field) (fs : List Field) (line : List ℕ) → Right f.rule (take f.width line) → AllRight fs (drop f.width line) → AllRight (f ∷ fs) line
all_more f fs line r rest zero h = r
all_more f fs line r rest (suc i) h = on_right f fs line i (rest i (omega arith))

pub all_first : (f : Field) (fs : List Field) (line : List ℕ) → AllRight (f ∷ fs) line → Right f.rule (take f.width line)
all_first f fs line a = a 0 (omega arith)

pub all_rest : (f : Field) (fs : List Field) (line : List ℕ) → AllRight (f ∷ fs) line → AllRight fs (drop f.width line)
all_rest f fs line a i h = off_right f fs line i (a (suc i) (omega arith))

pub wrong_here : (f : Field) (fs : List Field) (line : List ℕ) → (Right f.rule (take f.width line) → ⊥) → FirstWrong (f ∷ fs) line 1
wrong_here f fs line n = record {
  place = 0;
  there = omega arith;
  begins = refl;
  left_right = λ i h. absurd (omega arith);
  wrong = n;
}

pub wrong_later : (f : Field) (fs : List Field) (line : List ℕ) (column : ℕ) → Right f.rule (take f.width line) → FirstWrong fs (drop f.width line) column → FirstWrong (f ∷ fs) line (f.width + column)
wrong_later f fs line column r w = record {
  place = suc w.place;
  there = omega (arith, w.there);
  begins = omega (arith, w.begins);
  left_right = left;
  wrong = λ x. w.wrong (off_right f fs line w.place x);
} where
  left : (i : ℕ) → i < suc w.place → FieldRight (f ∷ fs) line i
  left zero h = r
  left (suc i) h = on_right f fs line i (w.left_right i (omega arith))

-- a line's fields are all right, or there is a first that is wrong, and not both; nor two first ones
pub right_or_wrong : (fs : List Field) (line : List ℕ) (column : ℕ) → AllRight fs line → FirstWrong fs line column → ⊥
right_or_wrong fs line column a w = w.wrong (a w.place w.there)
