-- The fields of a line whose bytes are one part after another. Assumes nothing.
use Rattle.std.proofs.Common.{◌≡◌, ℕ, ◌+◌, List, [], ◌∷◌, ◌++◌, length, take, drop, sym, subst, arith}
use Rattle.std.proofs.lemmas.List.{take_at, drop_at, take-append-drop, take-take, drop-take, drop-drop}
use Rattle.page.specs.Rules.{Field, Right}
use Rattle.page.specs.Faults.{AllRight}
use Rattle.page.proofs.Reading.{width_of, Split, right_more, right_append}
use Rattle.page.proofs.Scan.{all_none, all_more, all_first, all_rest}

-- bytes that were joined are split again
joined : (width : ℕ) (part rest : List ℕ) → length part ≡ width → Split width (part ++ rest) part rest
joined width part rest wide = record { front = sym (take_at part rest width wide); back = sym (drop_at part rest width wide) }

-- a field over the part and other fields over the rest are right, if the part keeps to the field's rule and the rest to the others'
pub field_then : (f : Field) (fs : List Field) (part rest : List ℕ) → length part ≡ f.width → Right f.rule part → AllRight fs rest → AllRight (f ∷ fs) (part ++ rest)
field_then f fs part rest wide r others =
    right_more f fs (joined f.width part rest wide) r others

-- some fields over the part and other fields over the rest are right, if both are
pub fields_then : (fs gs : List Field) (part rest : List ℕ) → length part ≡ width_of fs → AllRight fs part → AllRight gs rest → AllRight (fs ++ gs) (part ++ rest)
fields_then fs gs part rest wide here others =
    right_append fs gs (joined (width_of fs) part rest wide) here others

-- where all fields are right, the first of them are, over the bytes that they take
pub fields_first : (fs gs : List Field) (line : List ℕ) → AllRight (fs ++ gs) line → AllRight fs (take (width_of fs) line)
fields_first [] gs line all = all_none []
fields_first (f ∷ fs) gs line all =
    all_more f fs (take (f.width + width_of fs) line)
    (subst (Right f.rule) (sym (take-take f.width (f.width + width_of fs) line (omega arith))) (all_first f (fs ++ gs) line all))
    (subst (AllRight fs) (sym (drop-take f.width (width_of fs) line)) (fields_first fs gs (drop f.width line) (all_rest f (fs ++ gs) line all)))

-- and so are the others, over the bytes behind those
pub fields_rest : (fs gs : List Field) (line : List ℕ) → AllRight (fs ++ gs) line → AllRight gs (drop (width_of fs) line)
fields_rest [] gs line all = all
fields_rest (f ∷ fs) gs line all =
    subst (AllRight gs) (drop-drop (width_of fs) f.width line) (fields_rest fs gs (drop f.width line) (all_rest f (fs ++ gs) line all))

-- bytes that are known in two parts
pub halves : (n : ℕ) (rest a b : List ℕ) → take n rest ≡ a → drop n rest ≡ b → rest ≡ a ++ b
halves n rest a b p q = let e = take-append-drop n rest in cc
