-- From a page to a book and back, and from a book to a page and back.
use Rattle.std.specs.Prelude.{◌≡◌, ℕ, ◌≤◌, List, ◌++◌, map, length, take, drop, Ok, Err, Result}
use Rattle.std.specs.List.{AllByRecursion}
use Rattle.book.specs.declared.Refusal.{Refusal}
use Rattle.book.specs.declared.Refusal.TheVariants.{OutOfRange}
use Rattle.book.specs.Meaning.{UnitState, free, standing, withheld, Meaning}
use Rattle.book.specs.Edits.{hidden_state}
use Rattle.page.specs.Format.{page_of}
use Rattle.page.specs.Faults.{Refused}
use Rattle.page.specs.Checked.{Acceptable}
use Rattle.pagebook.specs.PageBooks.{Opened}
use Rattle.writing.specs.WrittenOut.{as_written, WrittenOut}

-- a page that is opened as a book and written out into the memory
pub record Copied (page before after : List ℕ) (answer : Result ℕ Refusal) : Type 0 where
  -- over the page of an acceptable meaning: that meaning is written out
  pub told : (m : Meaning) → Acceptable m → page ≡ page_of m → WrittenOut m before after answer
  -- and where there is room, the memory begins with the page's own bytes
  pub old_bytes : (m : Meaning) → Acceptable m → page ≡ page_of m → length page ≤ length before → (answer ≡ Ok (length page)) × (after ≡ page ++ drop (length page) before)
  -- bytes that the check refuses are the empty book, which is not written out
  pub refused : (line column : ℕ) → Refused page line column → (answer ≡ Err OutOfRange) × (after ≡ before)

-- no number of the book is withheld
abbrev pub NotWithheld : UnitState → Type 0
NotWithheld free = Unit {0}
NotWithheld (standing f) = Unit {0}
NotWithheld (withheld f) = ⊥

-- a book was written out: whatever opening the bytes of the answered length promises, is the book with its withheld
-- numbers free; a book with nothing withheld is there again
pub record ReadsBack (m : Meaning) (memory : List ℕ) (size : ℕ) : Type 0 where
  pub as_written : (again : Meaning) → Opened (take size memory) again → again ≡ as_written m
  pub same_book : AllByRecursion NotWithheld m.units → (again : Meaning) → Opened (take size memory) again → again ≡ m

-- the book with every standing unit withheld
abbrev pub all_hidden : Meaning → Meaning
all_hidden m = record { materials = m.materials; units = map hidden_state m.units }

-- the bytes of a page on which every unit was hidden: the page of that book; bytes that the check refuses are untouched
pub record PageHidden (before after : List ℕ) : Type 0 where
  pub size : length after ≡ length before
  pub page : (m : Meaning) → Acceptable m → before ≡ page_of m → after ≡ page_of (all_hidden m)
  pub refused : (line column : ℕ) → Refused before line column → after ≡ before
