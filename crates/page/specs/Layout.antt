-- The layout of a page, said once: how wide each field is, how long each line is, and where a line begins.
use Rattle.std.specs.Prelude.{ℕ, ◌+◌, ◌-◌, ◌*◌, ◌≤◌, List, length, take, drop}

-- how many columns a letter, a number and a newline take
abbrev pub letter_width : ℕ
letter_width = 1

abbrev pub number_width : ℕ
number_width = 5

abbrev pub newline_width : ℕ
newline_width = 1

-- how many fields each of a unit's two lists has, and how many columns they take together
abbrev pub list_fields : ℕ
list_fields = 8

abbrev pub list_width : ℕ
list_width = list_fields * number_width

-- the most materials, and the most units, that a page can have
abbrev pub most : ℕ
most = 512

-- the lines of a page: the counts of materials and units, then a line for each material, then one for each unit number
pub data Line : Type 0 where
  counts : Line
  material : ℕ → Line
  unit : ℕ → Line

-- how many bytes a line has, the newline too: 11, 7 and 87
abbrev pub line_length : Line → ℕ
line_length counts = number_width + number_width + newline_width
line_length (material k) = letter_width + number_width + newline_width
line_length (unit k) = letter_width + number_width + list_width + list_width + newline_width

-- how many bytes stand before a line, on a page with l materials
abbrev pub line_start : ℕ → Line → ℕ
line_start l counts = 0
line_start l (material k) = line_length counts + line_length (material 0) * (k - 1)
line_start l (unit k) = line_length counts + line_length (material 0) * l + line_length (unit 0) * (k - 1)

-- how many bytes a page with l materials and n units has
abbrev pub page_length : ℕ → ℕ → ℕ
page_length l n = line_length counts + line_length (material 0) * l + line_length (unit 0) * n

-- the number of a line, counted from 1 at the top
abbrev pub line_number : ℕ → Line → ℕ
line_number l counts = 1
line_number l (material k) = 1 + k
line_number l (unit k) = 1 + l + k

-- the lines that a page with l materials and n units has
abbrev pub OnPage : ℕ → ℕ → Line → Type 0
OnPage l n counts = Unit {0}
OnPage l n (material k) = (1 ≤ k) × (k ≤ l)
OnPage l n (unit k) = (1 ≤ k) × (k ≤ n)

-- the bytes that stand where a line should be
abbrev pub line_bytes : List ℕ → ℕ → Line → List ℕ
line_bytes bytes l x = take (line_length x) (drop (line_start l x) bytes)

-- the bytes reach to the end of the line
abbrev pub Whole : List ℕ → ℕ → Line → Type 0
Whole bytes l x = line_start l x + line_length x ≤ length bytes
