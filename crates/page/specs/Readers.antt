-- What the readers of a page answer: of one field, of one line, of the lines one after another.
use Rattle.std.specs.Prelude.{◌≡◌, ℕ, ◌+◌, ◌<◌, ◌≤◌, ◌⊎◌, List, length, take, drop, Some, None, Ok, Err, Option, Result, ◌≢◌}
use Rattle.columns.specs.Columns.{blanks, Shows}
use Rattle.book.specs.declared.PageFault.{PageFault}
use Rattle.page.specs.Layout.{number_width, Line, line_number, line_bytes, Whole}
use Rattle.page.specs.Rules.{Field, Rule, Right, number, fields}
use Rattle.page.specs.Faults.{AllRight, FirstWrong, LineRight}
use Rattle.page.specs.declared.field.FieldFault.{FieldFault}
use Rattle.page.specs.declared.line.LineFault.{LineFault}

-- a field: it keeps to its rule, or it does not
abbrev pub FieldTold : {T : Type 0} → Rule → List ℕ → Result T FieldFault → Type 0
FieldTold rule bytes (Ok _) = Right rule bytes
FieldTold rule bytes (Err _) = Right rule bytes → ⊥

-- a number's field: the number that it shows, from low to high, or it shows none such
abbrev pub NumberTold : (low high : ℕ) → List ℕ → Result ℕ FieldFault → Type 0
NumberTold low high bytes (Ok n) = Shows bytes n × (low ≤ n) × (n ≤ high)
NumberTold low high bytes (Err _) = Right (number low high) bytes → ⊥

-- n may stand in a list's field: it is at most the highest, and above the number in the field before, which is 0 at the
-- first field; after a blank there is no such number, and no n may stand
abbrev pub MayStand : (highest : ℕ) → (above : Option ℕ) → ℕ → Type 0
MayStand highest (Some last) n = (last < n) × (n ≤ highest)
MayStand highest None n = ⊥

-- a list's field: it is blank, or shows a number that may stand there, or neither
abbrev pub EntryTold : (highest : ℕ) → (above : Option ℕ) → List ℕ → Result (Option ℕ) FieldFault → Type 0
EntryTold highest above bytes (Ok None) = bytes ≡ blanks number_width
EntryTold highest above bytes (Ok (Some n)) = Shows bytes n × MayStand highest above n
EntryTold highest above bytes (Err _) = (bytes ≢ blanks number_width) × ((n : ℕ) → Shows bytes n → MayStand highest above n → ⊥)

-- what was read from a field that begins at this column, as the reader of the line hands it on
abbrev pub at_column : {T : Type 0} → ℕ → Result T FieldFault → Result T LineFault
at_column column (Ok value) = Ok value
at_column column (Err _) = Err (record { column = column })

-- a line: all its fields are right, or the first wrong one begins at the fault's column
abbrev pub LineTold : {T : Type 0} → List Field → List ℕ → Result T LineFault → Type 0
LineTold fs line (Ok _) = AllRight fs line
LineTold fs line (Err fault) = FirstWrong fs line fault.column

-- the first wrong one of some fields begins at this column of their line, where they begin at the column `first`
abbrev pub WrongFrom : (first : ℕ) → List Field → List ℕ → ℕ → Type 0
WrongFrom first fs bytes column = (within : ℕ) × FirstWrong fs bytes within × (column + 1 ≡ first + within)

-- a list that begins at the column `first` of its line: the same
abbrev pub ListTold : {T : Type 0} → (first : ℕ) → List Field → List ℕ → Result T LineFault → Type 0
ListTold first fs list (Ok _) = AllRight fs list
ListTold first fs list (Err fault) = WrongFrom first fs list fault.column

-- a line of `width` bytes from `start` on is there, and these are its bytes
abbrev pub LineThere : List ℕ → (start width : ℕ) → List ℕ → Type 0
LineThere bytes start width line = (start + width ≤ length bytes) × (line ≡ take width (drop start bytes))

-- the bytes end before the line does; its fault has column 0
abbrev pub CutShort : List ℕ → (start width line : ℕ) → PageFault → Type 0
CutShort bytes start width line fault = (start + width ≤ length bytes → ⊥) × (fault ≡ record { line = line; column = 0 })

-- what was read from the line with this number, as the check hands it on
abbrev pub on_line : {T : Type 0} → ℕ → Result T LineFault → Result T PageFault
on_line line (Ok value) = Ok value
on_line line (Err fault) = Err (record { line = line; column = fault.column })

-- a line of the page is at fault, and this is the place: the end of the bytes cuts it short, or a field of it is the
-- first wrong one
abbrev pub FaultyAt : List ℕ → (l : ℕ) → Line → (line column : ℕ) → Type 0
FaultyAt bytes l x line column = (line ≡ line_number l x) × (((Whole bytes l x → ⊥) × (column ≡ 0)) ⊎ (Whole bytes l x × FirstWrong (fields l x (line_bytes bytes l x)) (line_bytes bytes l x) column))

-- one line of the page: it is right, or at fault
abbrev pub LineChecked : {T : Type 0} → List ℕ → (l : ℕ) → Line → Result T PageFault → Type 0
LineChecked bytes l x (Ok _) = LineRight bytes l x
LineChecked bytes l x (Err fault) = FaultyAt bytes l x fault.line fault.column

-- the first number from 1 to the count at which the answer is a fault
pub record FirstFault (answers : ℕ → Result (Unit {0}) PageFault → Type 0) (count : ℕ) (fault : PageFault) : Type 0 where
  pub number : ℕ
  pub counted : (1 ≤ number) × (number ≤ count)
  pub above : (k : ℕ) → 1 ≤ k → k < number → answers k (Ok tt)
  pub faulty : answers number (Err fault)

-- the answers at the numbers from 1 to the count: none is a fault, or one is the first
abbrev pub EachAnswered : (answers : ℕ → Result (Unit {0}) PageFault → Type 0) → (count : ℕ) → Result (Unit {0}) PageFault → Type 0
EachAnswered answers count (Ok _) = (k : ℕ) → 1 ≤ k → k ≤ count → answers k (Ok tt)
EachAnswered answers count (Err fault) = FirstFault answers count fault

-- the lines of a kind, numbered from 1 to the count: all are right, or one is the first at fault
abbrev pub LinesChecked : List ℕ → (l : ℕ) → (ℕ → Line) → (count : ℕ) → Result (Unit {0}) PageFault → Type 0
LinesChecked bytes l kind count = EachAnswered (λ k. LineChecked bytes l (kind k)) count
