-- What bytes mean as a page. Every list of bytes has a meaning, so that a page book can be asked whatever it stands over;
-- on the page of a book it is that book, which is proved where a page book is opened.
use Rattle.std.specs.Prelude.{ℕ, zero, suc, ◌+◌, ◌-◌, ◌*◌, Bool, cond, ◌&&◌, ◌||◌, List, [], ◌∷◌, map, length, take, drop, ◌==◌, nat_le, slice_index, bytes_eq}
use Rattle.std.specs.List.{range_with_len}
use Rattle.book.specs.Meaning.{Material, Fitted, UnitState, free, standing, withheld, Meaning}
use Rattle.book.specs.Climbing.{climbing}
use Rattle.columns.specs.Columns.{column}
use Rattle.page.specs.Layout.{number_width, list_fields, most, material, unit, line_bytes, page_length}
use Rattle.page.specs.Rules.{inputs_in, outputs_in}

-- the digit that a byte stands for; any other byte is 0
abbrev pub digit : ℕ → ℕ
digit b = cond (nat_le 48 b && nat_le b 57) (b - 48) 0

-- the number that digits write, after those of n
abbrev pub value_after : ℕ → List ℕ → ℕ
value_after n [] = n
value_after n (b ∷ bs) = value_after (10 * n + digit b) bs

-- the number that a field shows, exactly as it is written there; 0 where the field shows none
unfoldable pub number_shown : List ℕ → ℕ
number_shown field = cond (bytes_eq field (column (length field) (value_after 0 field))) (value_after 0 field) 0

-- the numbers in so many fields, one after another
abbrev pub numbers_in : List ℕ → ℕ → List ℕ
numbers_in bytes zero = []
numbers_in bytes (suc c) = number_shown (take number_width bytes) ∷ numbers_in (drop number_width bytes) c

-- the list in the fields of a list: as far as they hold materials in ascending order
unfoldable pub list_in : ℕ → List ℕ → List ℕ
list_in l bytes = climbing 0 l (numbers_in bytes list_fields)

-- 'P' wanted, 'R' bought, 'B' both; any other letter is plain
abbrev pub material_in : List ℕ → Material
material_in line = record { wanted = slice_index line 0 == 80 || (slice_index line 0 == 66); bought = slice_index line 0 == 82 || (slice_index line 0 == 66) }

-- 'S' standing, 'W' withheld; any other letter is free
abbrev pub state_by : ℕ → Fitted → UnitState
state_by letter f = cond (letter == 83) (standing f) (cond (letter == 87) (withheld f) free)

abbrev pub unit_in : ℕ → List ℕ → UnitState
unit_in l line = state_by (slice_index line 0) (record { inputs = list_in l (inputs_in line); outputs = list_in l (outputs_in line) })

-- the counts that the first line shows, where a page with such counts could stand in the bytes; else none of either
abbrev pub first_count : List ℕ → ℕ
first_count bytes = number_shown (take number_width bytes)

abbrev pub second_count : List ℕ → ℕ
second_count bytes = number_shown (take number_width (drop number_width bytes))

abbrev pub room : List ℕ → Bool
room bytes = nat_le (first_count bytes) most && (nat_le (second_count bytes) most && nat_le (page_length (first_count bytes) (second_count bytes)) (length bytes))

unfoldable pub materials_on : List ℕ → ℕ
materials_on bytes = cond (room bytes) (first_count bytes) 0

unfoldable pub units_on : List ℕ → ℕ
units_on bytes = cond (room bytes) (second_count bytes) 0

-- what the bytes mean
abbrev pub material_on : List ℕ → ℕ → Material
material_on bytes k = material_in (line_bytes bytes 0 (material k))

abbrev pub unit_on : List ℕ → ℕ → ℕ → UnitState
unit_on bytes l k = unit_in l (line_bytes bytes l (unit k))

abbrev pub of_page : List ℕ → Meaning
of_page bytes = record {
  materials = map (material_on bytes) (range_with_len 1 (materials_on bytes));
  units = map (unit_on bytes (materials_on bytes)) (range_with_len 1 (units_on bytes));
}
