-- A unit's line, split into its letter, its number, its two lists and its end. Assumes nothing.
use Rattle.std.proofs.Common.{◌≡◌, ℕ, ◌<◌, List, [], ◌∷◌, ◌++◌, length, get_or, take, drop, ap, ◌∙◌, subst}
use Rattle.std.proofs.lemmas.List.{drop-drop}
use Rattle.page.specs.Faults.{AllRight}
use Rattle.page.specs.Layout.{unit, list_width}
use Rattle.page.specs.Readers.{WrongFrom}
use Rattle.page.specs.Rules.{Field, Right, letter, letter_field, number, number_field, newline_field, entry_fields, highest_named, inputs_in, outputs_in, fields}
use Rattle.page.proofs.Reading.{Split, right_more, wrong_more, wrong_now, letter_split, right_append, wrong_append, wrong_part}
use Rattle.page.proofs.Scan.{all_none}

-- the letters of a unit's line on a page that is to be read
abbrev pub state : List ℕ
state = 45 ∷ (83 ∷ [])

-- the fields of the two lists and of what stands behind the letter and the number
abbrev ins : ℕ → List ℕ → List Field
ins l line = entry_fields (highest_named l line) (inputs_in line)

abbrev outs : ℕ → List ℕ → List Field
outs l line = entry_fields (highest_named l line) (outputs_in line)

abbrev behind_ins : ℕ → List ℕ → List Field
behind_ins l line = outs l line ++ newline_field ∷ []

abbrev behind_number : ℕ → List ℕ → List Field
behind_number l line = ins l line ++ behind_ins l line

module _ (l k : ℕ) {line first rest : List ℕ} (a : Split 1 line first rest) where
  module _ (r : Right (letter state) first) {shown lists : List ℕ} (b : Split 5 rest shown lists) where
    pub number_wrong : (Right (number k k) shown → ⊥) → WrongFrom 1 (fields l (unit k) line) line 2
    number_wrong n = wrong_more (letter_field state) (number_field k k ∷ behind_number l line) 1 2 a r (wrong_now (number_field k k) (behind_number l line) 2 b n)

    module _ (s : Right (number k k) shown) (highest : ℕ) (named : highest ≡ highest_named l line) {inputs behind : List ℕ} (d : Split 40 lists inputs behind) where
      -- what is wrong in the lists, or behind them, is wrong in the line
      lists_wrong : (column : ℕ) → WrongFrom 7 (behind_number l line) lists column → WrongFrom 1 (fields l (unit k) line) line column
      lists_wrong column w =
          wrong_more (letter_field state) (number_field k k ∷ behind_number l line) 1 column a r (wrong_more (number_field k k) (behind_number l line) 2 column b s w)

      inputs_are : inputs ≡ inputs_in line
      inputs_are = d.front ∙ ap (take list_width) (b.back ∙ (ap (drop 5) a.back ∙ drop-drop 5 1 line))

      -- the fields of the inputs, as the list reader has them
      ins_are : entry_fields highest inputs ≡ ins l line
      ins_are = ap (λ h. entry_fields h inputs) named ∙ ap (entry_fields (highest_named l line)) inputs_are

      pub inputs_wrong : (column : ℕ) → WrongFrom 7 (entry_fields highest inputs) inputs column → WrongFrom 1 (fields l (unit k) line) line column
      inputs_wrong column w = lists_wrong column (wrong_part (ins l line) (behind_ins l line) 7 column d (subst (λ fs. WrongFrom 7 fs inputs column) ins_are w))

      module _ (i : AllRight (entry_fields highest inputs) inputs) {outputs last : List ℕ} (e : Split 40 behind outputs last) where
        behind_wrong : (column : ℕ) → WrongFrom 47 (behind_ins l line) behind column → WrongFrom 1 (fields l (unit k) line) line column
        behind_wrong column w = lists_wrong column (wrong_append (ins l line) (behind_ins l line) 7 column d (subst (λ fs. AllRight fs inputs) ins_are i) w)

        outputs_are : outputs ≡ outputs_in line
        outputs_are =
            e.front ∙ ap (take list_width) (d.back ∙ (ap (drop 40) (b.back ∙ (ap (drop 5) a.back ∙ drop-drop 5 1 line)) ∙ drop-drop 40 6 line))

        outs_are : entry_fields highest outputs ≡ outs l line
        outs_are = ap (λ h. entry_fields h outputs) named ∙ ap (entry_fields (highest_named l line)) outputs_are

        pub outputs_wrong : (column : ℕ) → WrongFrom 47 (entry_fields highest outputs) outputs column → WrongFrom 1 (fields l (unit k) line) line column
        outputs_wrong column w =
            behind_wrong column (wrong_part (outs l line) (newline_field ∷ []) 47 column e (subst (λ fs. WrongFrom 47 fs outputs column) outs_are w))

        module _ (o : AllRight (entry_fields highest outputs) outputs) (some : 0 < length last) where
          pub end_wrong : (Right (letter (10 ∷ [])) (get_or last 0 0 ∷ []) → ⊥) → WrongFrom 1 (fields l (unit k) line) line 87
          end_wrong n =
              behind_wrong 87 (wrong_append (outs l line) (newline_field ∷ []) 47 87 e (subst (λ fs. AllRight fs outputs) outs_are o) (wrong_now newline_field [] 87 (letter_split last some) n))

          pub line_right : Right (letter (10 ∷ [])) (get_or last 0 0 ∷ []) → AllRight (fields l (unit k) line) line
          line_right t =
              right_more (letter_field state) (number_field k k ∷ behind_number l line) a r (right_more (number_field k k) (behind_number l line) b s
              (right_append (ins l line) (behind_ins l line) d (subst (λ fs. AllRight fs inputs) ins_are i)
              (right_append (outs l line) (newline_field ∷ []) e (subst (λ fs. AllRight fs outputs) outs_are o)
              (right_more newline_field [] (letter_split last some) t (all_none (drop 1 last))))))
