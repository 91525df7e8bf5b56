-- Parts of the bytes at computed places, and a unit's line by its parts. Assumes nothing.
use Rattle.std.proofs.Common.{◌≡◌, ℕ, ◌+◌, ◌-◌, ◌<◌, ◌≤◌, List, ◌∷◌, ◌++◌, length, get_or, take, drop, sym, ap, ◌∙◌, add-zero, arith, length-append}
use Rattle.std.proofs.lemmas.List.{take_at, drop_at, get_or-take, get_or-drop, take-take, drop-take, drop-drop}
use Rattle.book.specs.Meaning.{Fitted}
use Rattle.page.specs.Rules.{inputs_in, outputs_in}

-- a part of a part of the bytes
pub part_of_part : (bytes : List ℕ) (start width at size : ℕ) → at + size ≤ width → take size (drop at (take width (drop start bytes))) ≡ take size (drop (start + at) bytes)
part_of_part bytes start width at size h =
    let rest = width - at in
    let whole : width ≡ at + rest = omega arith in
    ap (λ n. take size (drop at (take n (drop start bytes)))) whole
    ∙ (ap (take size) (drop-take at rest (drop start bytes)) ∙ (take-take size rest (drop at (drop start bytes)) (omega arith) ∙ ap (take size) (drop-drop at start bytes)))

-- the first byte of a part
pub first_of_part : (bytes : List ℕ) (start width : ℕ) → 0 < width → get_or (take width (drop start bytes)) 0 0 ≡ get_or bytes start 0
first_of_part bytes start width h = get_or-take width (drop start bytes) 0 0 h ∙ (get_or-drop start bytes 0 0 ∙ ap (λ i. get_or bytes i 0) (add-zero start))

-- a line by its parts: a letter, a number, two lists and what is behind them
module _ (letter : ℕ) (number a b end : List ℕ) (five : length number ≡ 5) (wide-a : length a ≡ 40) (wide-b : length b ≡ 40) where
  abbrev line : List ℕ
  line = letter ∷ (number ++ (a ++ (b ++ end)))

  pub length_parts : length line ≡ 86 + length end
  length_parts = omega (arith, length-append number (a ++ (b ++ end)), length-append a (b ++ end), length-append b end)

  pub number_part : take 5 (drop 1 line) ≡ number
  number_part = take_at number (a ++ (b ++ end)) 5 five

  -- what stands behind the number, and behind each list
  behind_number : drop 6 line ≡ a ++ (b ++ end)
  behind_number = drop_at number (a ++ (b ++ end)) 5 five

  behind_inputs : drop 46 line ≡ b ++ end
  behind_inputs = sym (drop-drop 40 6 line) ∙ (ap (drop 40) behind_number ∙ drop_at a (b ++ end) 40 wide-a)

  pub behind_outputs : drop 86 line ≡ end
  behind_outputs = sym (drop-drop 40 46 line) ∙ (ap (drop 40) behind_inputs ∙ drop_at b end 40 wide-b)

  pub inputs_part : inputs_in line ≡ a
  inputs_part = ap (take 40) behind_number ∙ take_at a (b ++ end) 40 wide-a

  pub outputs_part : outputs_in line ≡ b
  outputs_part = ap (take 40) behind_inputs ∙ take_at b end 40 wide-b

-- what a unit is fitted with is told by its two lists
pub same_fitted : {a b c d : List ℕ} → a ≡ c → b ≡ d → ◌≡◌ {A = Fitted} (record { inputs = a; outputs = b }) (record { inputs = c; outputs = d })
same_fitted p q = cc
