-- Where the first fault of a page is.
use Rattle.std.specs.Prelude.{◌≡◌, ℕ, zero, suc, ◌+◌, ◌<◌, ◌≤◌, List, [], ◌∷◌, length, take, drop, slice_index_or}
use Rattle.page.specs.Layout.{most, Line, counts, line_length, line_number, line_bytes, page_length, OnPage, Whole}
use Rattle.page.specs.Format.{counts_line}
use Rattle.page.specs.Rules.{Field, Right, fields, newline_field}

-- how many columns the first i fields take
abbrev pub columns_before : List Field → ℕ → ℕ
columns_before [] i = 0
columns_before (f ∷ fs) zero = 0
columns_before (f ∷ fs) (suc i) = f.width + columns_before fs i

abbrev pub field_at : List Field → ℕ → Field
field_at fs i = slice_index_or fs i newline_field

-- the i-th field of the line (from 0) keeps to its rule
abbrev pub FieldRight : List Field → List ℕ → ℕ → Type 0
FieldRight fs line i = Right (field_at fs i).rule (take (field_at fs i).width (drop (columns_before fs i) line))

-- every field of the line keeps to its rule
abbrev pub AllRight : List Field → List ℕ → Type 0
AllRight fs line = (i : ℕ) → i < length fs → FieldRight fs line i

-- the first field that does not keep to its rule begins at this column, counted from 1
pub record FirstWrong (fs : List Field) (line : List ℕ) (column : ℕ) : Type 0 where
  pub place : ℕ
  pub there : place < length fs
  pub begins : column ≡ columns_before fs place + 1
  pub left_right : (i : ℕ) → i < place → FieldRight fs line i
  pub wrong : FieldRight fs line place → ⊥

-- a line of the page is there to its end, and right
pub record LineRight (bytes : List ℕ) (l : ℕ) (x : Line) : Type 0 where
  pub whole : Whole bytes l x
  pub right : AllRight (fields l x (line_bytes bytes l x)) (line_bytes bytes l x)

-- every line above this line number is right
abbrev pub RightAbove : List ℕ → ℕ → ℕ → ℕ → Type 0
RightAbove bytes l n number = (x : Line) → OnPage l n x → line_number l x < number → LineRight bytes l x

-- the first fault of bytes that should be a page with l materials and n units
pub data FaultAt (bytes : List ℕ) (l n : ℕ) (line column : ℕ) : Type 0 where
  -- the bytes end within the line
  cut_short : (x : Line) → OnPage l n x → line ≡ line_number l x → column ≡ 0 → RightAbove bytes l n line → (Whole bytes l x → ⊥) → FaultAt bytes l n line column
  -- the line is there, and the field at this column is the first in it that is wrong
  wrong_field : (x : Line) → OnPage l n x → line ≡ line_number l x → RightAbove bytes l n line → Whole bytes l x → FirstWrong (fields l x (line_bytes bytes l x)) (line_bytes bytes l x) column → FaultAt bytes l n line column
  -- every line is right, and more bytes follow
  bytes_after : line ≡ l + n + 2 → column ≡ 0 → RightAbove bytes l n line → page_length l n < length bytes → FaultAt bytes l n line column

-- the first line of the bytes is that of a page with l materials and n units
pub record Counts (bytes : List ℕ) (l n : ℕ) : Type 0 where
  pub materials : (1 ≤ l) × (l ≤ most)
  pub units : (1 ≤ n) × (n ≤ most)
  pub shown : take (line_length counts) bytes ≡ counts_line l n

-- the bytes are no page, and the first fault is here. What lines there should be below the first is known from the first.
pub record Refused (bytes : List ℕ) (line column : ℕ) : Type 0 where
  pub materials : ℕ
  pub units : ℕ
  pub counted : 1 < line → Counts bytes materials units
  pub fault : FaultAt bytes materials units line column
