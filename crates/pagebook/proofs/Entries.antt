-- The entries of a list, field by field. Assumes nothing.
use Rattle.std.proofs.Common.{◌≡◌, ℕ, suc, ◌+◌, ◌-◌, ◌*◌, ◌<◌, ◌≤◌, ◌⊎◌, List, ◌∷◌, ◌++◌, length, get_or, take, drop, ap, ◌∙◌, arith, length-append}
use Rattle.std.proofs.ByRecursion.{All-get_or}
use Rattle.book.specs.Climbing.{climbing}
use Rattle.page.specs.Layout.{number_width, list_fields, list_width}
use Rattle.pagebook.specs.Reading.{number_shown, numbers_in, list_in}
use Rattle.pagebook.specs.PageLaws.{climbing_on, climbing_off, list_known}
use Rattle.pagebook.proofs.Climbs.{numbers_first, list_at}

-- of the fields of a list the first `count` hold as many entries, the last of which is `last`, and those in `rest` hold the
-- others
pub record CountedTo (list : List ℕ) (highest count last : ℕ) (rest : List ℕ) : Type 0 where
  pub left : number_width * count + length rest ≡ list_width
  pub counted : length (list_in highest list) ≡ count + length (climbing last highest (numbers_in rest (list_fields - count)))

-- before the first field nothing is counted
pub counted_none : (list : List ℕ) (highest : ℕ) → length list ≡ list_width → CountedTo list highest 0 0 list
unfolding list_in
counted_none list highest whole = record { left = omega arith; counted = omega arith }

-- the next field, and the fields behind it
module _ (list : List ℕ) (highest count last : ℕ) (rest field behind : List ℕ) (so_far : CountedTo list highest count last rest) (parts : rest ≡ field ++ behind) (wide : length field ≡ number_width) where
  -- the numbers that are left begin with that in the field
  numbers_next : numbers_in rest (list_fields - count) ≡ number_shown field ∷ numbers_in behind (list_fields - (count + 1))
  numbers_next =
      let size = ap length parts in
      let more : list_fields - count ≡ suc (list_fields - (count + 1)) = omega (arith, length-append field behind) in
      ap (numbers_in rest) more ∙ (ap (λ (t : List ℕ). numbers_in t (suc (list_fields - (count + 1)))) parts ∙ numbers_first field behind (list_fields - (count + 1)) wide)

  -- a field whose number goes on the list is one entry more
  pub counted_more : last < number_shown field → number_shown field ≤ highest → CountedTo list highest (count + 1) (number_shown field) behind
  counted_more above below =
      let on = ap length (ap (climbing last highest) numbers_next ∙ climbing_on last highest (number_shown field) (numbers_in behind (list_fields - (count + 1))) above below) in
      record { left = omega (arith, ap length parts, length-append field behind); counted = omega arith }

  -- any other ends it
  pub counted_end : (number_shown field ≤ last) ⊎ (highest < number_shown field) → count ≡ length (list_in highest list)
  counted_end out =
      let off = ap length (ap (climbing last highest) numbers_next ∙ climbing_off last highest (number_shown field) (numbers_in behind (list_fields - (count + 1))) out) in
      omega arith

-- so do the last of the fields
pub counted_all : (list : List ℕ) (highest count last : ℕ) (rest : List ℕ) → CountedTo list highest count last rest → length rest < number_width → list_fields ≡ length (list_in highest list)
counted_all list highest count last rest so_far short =
    let all : list_fields - count ≡ 0 = omega arith in
    omega (arith, ap (λ c. length (climbing last highest (numbers_in rest c))) all)

-- an entry of the list is the number in its field, and no higher than the highest
pub entry_shown : (list : List ℕ) (highest i : ℕ) → i < length (list_in highest list) → (i < list_fields) × (get_or (list_in highest list) i 0 ≡ number_shown (take number_width (drop (number_width * i) list))) × (number_shown (take number_width (drop (number_width * i) list)) ≤ highest)
entry_shown list highest i h =
    let known = list_known highest list in
    let shown = list_at highest list i h in
    let within = All-get_or (λ x. (1 ≤ x) × (x ≤ highest)) (list_in highest list) i 0 h known.known in
    (omega (arith, known.few), shown, omega (arith, within.1))
