-- The page book: its meaning, its frame, and what opening one promises.
use Rattle.std.specs.Prelude.{◌≡◌, ℕ, Bool, false, cond, List, length, drop}
use Rattle.book.specs.Meaning.{Meaning}
use Rattle.book.specs.Layers.{empty_book}
use Rattle.page.specs.Layout.{page_length}
use Rattle.page.specs.Format.{page_of}
use Rattle.page.specs.Faults.{Refused}
use Rattle.page.specs.Checked.{Acceptable}
use Rattle.pagebook.specs.declared.PageBook.{PageBook}
use Rattle.pagebook.specs.Reading.{of_page, materials_on, units_on}

-- what bytes mean under a page book that is open or not: one that is not is the empty book
abbrev pub meaning_of : Bool → List ℕ → Meaning
meaning_of is_open bytes = cond is_open (of_page bytes) empty_book

abbrev pub page_meaning : PageBook → Meaning
page_meaning b = meaning_of b.«open» b.bytes.now

-- how many bytes the page takes
abbrev pub extent : List ℕ → ℕ
extent bytes = page_length (materials_on bytes) (units_on bytes)

-- the bytes are exactly the page of what they mean
abbrev pub Canonical : List ℕ → Type 0
Canonical bytes = bytes ≡ page_of (of_page bytes)

-- bytes before and after a call: as many, with the same counts; what follows the page is as it was; and a page goes on
-- being exactly the page of what it means
pub record BytesKept (before after : List ℕ) : Type 0 where
  pub size : length after ≡ length before
  pub materials : materials_on after ≡ materials_on before
  pub units : units_on after ≡ units_on before
  pub beyond : drop (extent before) after ≡ drop (extent before) before
  pub canonical : Canonical before → Canonical after

-- what no call changes: where the bytes are, whether the book is open, and of the bytes what is said above; under a book
-- that is not open no byte changes
pub record PageKept (before after : PageBook) : Type 0 where
  pub there : after.bytes.ghost_name ≡ before.bytes.ghost_name
  pub same_open : after.«open» ≡ before.«open»
  pub bytes : BytesKept before.bytes.now after.bytes.now
  pub shut : before.«open» ≡ false → after.bytes.now ≡ before.bytes.now

-- what opening a page book over bytes promises of its meaning: over the page of an acceptable meaning it is that meaning,
-- and over bytes that the check refuses it is the empty book
pub record Opened (bytes : List ℕ) (meaning : Meaning) : Type 0 where
  pub page : (m : Meaning) → Acceptable m → bytes ≡ page_of m → (meaning ≡ m) × Canonical bytes
  pub refused : (line column : ℕ) → Refused bytes line column → meaning ≡ empty_book
