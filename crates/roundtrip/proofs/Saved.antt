-- What is written out can be read, and an acceptable meaning is written out as it is. Assumes nothing.
use Rattle.std.proofs.Common.{◌≡◌, ℕ, ◌≤◌, IfOk, Bool, true, false, List, [], ◌∷◌, ◌++◌, map, length, take, drop, None, Ok, Err, Result, sym, refl, ap, ◌∙◌, subst, arith}
use Rattle.std.proofs.lemmas.List.{length-map, take_at}
use Rattle.std.proofs.lemmas.Grind.{common_steps}
use Rattle.std.specs.List.{AllByRecursion}
use Rattle.book.specs.declared.Refusal.{Refusal}
use Rattle.book.specs.declared.Refusal.TheVariants.{OutOfRange}
use Rattle.book.specs.Meaning.{UnitState, free, standing, withheld, Meaning, material_count, unit_count, StateWithin, WellFormed}
use Rattle.book.specs.Refusals.{first_refusal}
use Rattle.book.specs.Layers.{empty_book}
use Rattle.page.specs.Layout.{page_length}
use Rattle.page.specs.Format.{page_of}
use Rattle.page.specs.Checked.{Rising, Settled, Acceptable}
use Rattle.page.proofs.Pages.{page_size}
use Rattle.pagebook.specs.declared.PageBook.{PageBook}
use Rattle.pagebook.specs.Reading.{of_page}
use Rattle.pagebook.specs.PageBooks.{Opened, Canonical, meaning_of, page_meaning, PageKept}
use Rattle.page.specs.Faults.{Refused}
use Rattle.writing.specs.WrittenOut.{settled, as_written, rises, lists_rise, all_rise, write_reasons, WrittenOut}
use Rattle.roundtrip.specs.ThereAndBack.{NotWithheld, ReadsBack, PageHidden, all_hidden}

-- the test of ascending order, both ways
rising_from : (last : ℕ) (xs : List ℕ) → rises last xs ≡ true → Rising last xs
rising_from last [] e = tt
rising_from last (x ∷ xs) e = grind (arith, common_steps, rising_from x xs)

rises_from : (last : ℕ) (xs : List ℕ) → Rising last xs → rises last xs ≡ true
rises_from last [] r = refl
rises_from last (x ∷ xs) r = grind (arith, common_steps, rises_from x xs)

-- a number is settled as it is written, where its lists ascend
settled_from : (s : UnitState) → lists_rise s ≡ true → Settled (settled s)
settled_from free e = tt
settled_from (standing f) e = grind (arith, common_steps, rising_from 0 f.inputs, rising_from 0 f.outputs)
settled_from (withheld f) e = tt

all_settled : (ss : List UnitState) → all_rise ss ≡ true → AllByRecursion Settled (map settled ss)
all_settled [] e = tt
all_settled (s ∷ ss) e = grind (arith, common_steps, settled_from s, all_settled ss)

rise_from : (s : UnitState) → Settled s → lists_rise s ≡ true
rise_from free t = refl
rise_from (standing f) t = grind (arith, common_steps, rises_from 0 f.inputs t.0, rises_from 0 f.outputs t.1)
rise_from (withheld f) t = refl

all_rise_from : (ss : List UnitState) → AllByRecursion Settled ss → all_rise ss ≡ true
all_rise_from [] t = refl
all_rise_from (s ∷ ss) t = grind (arith, common_steps, rise_from s t.0, all_rise_from ss t.1)

-- lists stay within the materials when withheld numbers are freed
within_settled : (l : ℕ) (s : UnitState) → StateWithin l s → StateWithin l (settled s)
within_settled l free w = tt
within_settled l (standing f) w = w
within_settled l (withheld f) w = tt

all_within : (l : ℕ) (ss : List UnitState) → AllByRecursion (StateWithin l) ss → AllByRecursion (StateWithin l) (map settled ss)
all_within l [] w = tt
all_within l (s ∷ ss) w = (within_settled l s w.0, all_within l ss w.1)

-- with nothing withheld, a book is written as it is
settled_same : (s : UnitState) → NotWithheld s → settled s ≡ s
settled_same free t = refl
settled_same (standing f) t = refl
settled_same (withheld f) t = absurd t

map_same : (ss : List UnitState) → AllByRecursion NotWithheld ss → map settled ss ≡ ss
map_same [] t = refl
map_same (s ∷ ss) t = grind (arith, common_steps, settled_same s t.0, map_same ss t.1)

pub written_same : (m : Meaning) → AllByRecursion NotWithheld m.units → as_written m ≡ m
written_same m t = let mk : List UnitState → Meaning = λ us. record { materials = m.materials; units = us } in ap mk (map_same m.units t)

not_withheld : (s : UnitState) → Settled s → NotWithheld s
not_withheld free t = tt
not_withheld (standing f) t = tt
not_withheld (withheld f) t = t

pub all_not_withheld : (ss : List UnitState) → AllByRecursion Settled ss → AllByRecursion NotWithheld ss
all_not_withheld [] t = tt
all_not_withheld (s ∷ ss) t = (not_withheld s t.0, all_not_withheld ss t.1)

module _ (m : Meaning) where
  -- what is written out without a refusal is the page of an acceptable meaning
  pub written_acceptable : (size : ℕ) → WellFormed m → first_refusal (write_reasons m size) ≡ None → Acceptable (as_written m)
  written_acceptable size w e =
      let same : unit_count (as_written m) ≡ unit_count m = length-map m.units settled in
      let rise : all_rise m.units ≡ true = grind (arith, common_steps) in
      record {
        well_formed = record {
          few_materials = w.few_materials;
          few_units = omega (arith, w.few_units);
          lists = all_within (material_count m) m.units w.lists;
        };
        some_material = grind (arith, common_steps);
        few_materials = grind (arith, common_steps);
        some_unit = grind (arith, common_steps);
        few_units = grind (arith, common_steps);
        settled = all_settled m.units rise;
      }

  -- an acceptable meaning is written out where there is room
  pub acceptable_passes : (size : ℕ) → Acceptable m → page_length (material_count m) (unit_count m) ≤ size → first_refusal (write_reasons m size) ≡ None
  acceptable_passes size a room = grind (arith, common_steps, all_rise_from m.units a.settled, a.some_material, a.few_materials, a.some_unit, a.few_units)

-- the length of the page of an acceptable meaning
page_long : (m : Meaning) → Acceptable m → length (page_of m) ≡ page_length (material_count m) (unit_count m)
page_long m a = page_size (page_of m) (material_count m) (unit_count m) (record { meaning = m; acceptable = a; materials = refl; units = refl; written = refl })

-- the bytes of the answered length are the page, so opening them gives what was written
pub reads_back : (m : Meaning) (before after : List ℕ) (r : Result ℕ Refusal) → WellFormed m → WrittenOut m before after r → IfOk r (ReadsBack m after)
reads_back m before after (Ok size) w told =
    let a = written_acceptable m (length before) w told.0 in
    let same : unit_count (as_written m) ≡ unit_count m = length-map m.units settled in
    let long : length (page_of (as_written m)) ≡ size = page_long (as_written m) a ∙ (ap (page_length (material_count m)) same ∙ sym told.1) in
    let page : take size after ≡ page_of (as_written m) = ap (take size) told.2 ∙ take_at (page_of (as_written m)) (drop size before) size long in
    record {
      as_written = λ again o. (o.page (as_written m) a page).0;
      same_book = λ none again o. (o.page (as_written m) a page).0 ∙ written_same m none;
    }
reads_back m before after (Err x) w told = tt

-- an accepted page is written out with its old bytes, where there is room
pub old_bytes : (m : Meaning) (page before after : List ℕ) (r : Result ℕ Refusal) → Acceptable m → page ≡ page_of m → length page ≤ length before → WrittenOut m before after r → (r ≡ Ok (length page)) × (after ≡ page ++ drop (length page) before)
old_bytes m page before after (Ok size) a e room told =
    let long : length page ≡ size = ap length e ∙ (page_long m a ∙ sym told.1) in
    let same : page_of (as_written m) ≡ page = ap page_of (written_same m (all_not_withheld m.units a.settled)) ∙ sym e in
    (ap Ok (sym long), told.2 ∙ (ap (λ p. p ++ drop size before) same ∙ ap (λ k. page ++ drop k before) (sym long)))
old_bytes m page before after (Err x) a e room told =
    let fits : page_length (material_count m) (unit_count m) ≤ length before = subst (λ k. k ≤ length before) (ap length e ∙ page_long m a) room in
    grind (arith, common_steps, acceptable_passes m (length before) a fits, told.0)

-- the empty book is not written out
pub empty_refused : (before after : List ℕ) (r : Result ℕ Refusal) → WrittenOut empty_book before after r → (r ≡ Err OutOfRange) × (after ≡ before)
empty_refused before after (Ok size) told = grind (arith, common_steps)
empty_refused before after (Err x) told = grind (arith, common_steps)

-- a page book that means an acceptable book, hidden or not, is open
by_open : (o : Bool) (bytes : List ℕ) (m : Meaning) → Acceptable m → meaning_of o bytes ≡ all_hidden m → of_page bytes ≡ all_hidden m
by_open true bytes m a e = e
by_open false bytes m a e = grind (arith, a.some_material, ap material_count e)

-- what the bytes are when a page book is gone whose units were all hidden
pub page_hidden : (b t : PageBook) (bytes after : List ℕ) → b.bytes.now ≡ bytes → Opened bytes (page_meaning b) → ((line column : ℕ) → Refused bytes line column → b.«open» ≡ false) → PageKept b t → page_meaning t ≡ all_hidden (page_meaning b) → after ≡ t.bytes.now → PageHidden bytes after
page_hidden b t bytes after same opened shut kept hid last = record {
  size = ap length last ∙ (kept.bytes.size ∙ ap length same);
  page = λ m a e.
      let canonical : Canonical t.bytes.now = kept.bytes.canonical (subst Canonical (sym same) (opened.page m a e).1) in
      let means : page_meaning t ≡ all_hidden m = hid ∙ ap all_hidden (opened.page m a e).0 in
      last ∙ (canonical ∙ ap page_of (by_open t.«open» t.bytes.now m a means));
  refused = λ line column f. last ∙ (kept.shut (shut line column f) ∙ same);
}
