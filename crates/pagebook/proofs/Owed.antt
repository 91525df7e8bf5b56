-- What an edit of a page book owes of the bytes before and after it, by what it writes. Assumes nothing.
use Rattle.std.proofs.Common.{◌≡◌, ℕ, Bool, true, false, List, length, take, drop, set, None, Ok, sym, refl, ap, ◌∙◌, subst, arith}
use Rattle.std.proofs.lemmas.List.{length-set}
use Rattle.book.specs.declared.books.State.{State}
use Rattle.book.specs.declared.books.State.TheVariants.{Free, Standing, Withheld}
use Rattle.book.specs.Refusals.{first_refusal}
use Rattle.book.specs.Meaning.{Fitted, Material, UnitState, Meaning, material_count}
use Rattle.book.specs.Declined.{inside, state_at}
use Rattle.book.specs.Asked.{material_at}
use Rattle.book.specs.Edits.{Edit, Edited, with_unit, with_material}
use Rattle.page.specs.Layout.{material, unit, line_start, line_bytes}
use Rattle.page.specs.Format.{class_letter, state_letter, material_line, unit_line}
use Rattle.page.specs.Letters.{letter_of_state}
use Rattle.page.specs.Rules.{inputs_in, outputs_in}
use Rattle.pagebook.specs.declared.lines.UnitLine.{UnitLine}
use Rattle.pagebook.specs.Reading.{list_in, material_in, state_by, unit_in, materials_on, of_page}
use Rattle.pagebook.specs.PageBooks.{meaning_of, Canonical, BytesKept}
use Rattle.pagebook.specs.Places.{lists_in}
use Rattle.pagebook.specs.Writes.{over, refitted}
use Rattle.pagebook.proofs.Overwritten.{set_over}
use Rattle.pagebook.proofs.Written.{Rewritten, unit_over, material_over}
use Rattle.pagebook.proofs.Lasting.{unit_canonical, unit_line_there, material_canonical, material_line_there}
use Rattle.pagebook.proofs.Lettered.{letter_in, class_in, class_line}
use Rattle.pagebook.specs.PageLaws.{page_well_formed, few_materials, few_units, unit_within, count_materials}
use Rattle.pagebook.proofs.Refitted.{Writable, lists_of, length_refitted, refitted_means, refitted_line}
use Rattle.pagebook.proofs.Answering.{material_there}
use Rattle.pagebook.proofs.Found.{UnitAt, in_state, none_inside, unit_inside, material_inside, length_line, state_in}

-- all that an edit that is accepted owes
pub record Owed (is_open : Bool) (edit : Meaning → Edit) (before after : List ℕ) : Type 0 where
  pub told : Edited (meaning_of is_open) edit before after (Ok (tt {0}))
  pub kept : BytesKept before after
  pub shut : is_open ≡ false → after ≡ before

-- an edit of an open book that is accepted, where a line was overwritten that makes of the bytes what the edit makes
accepted : (edit : Meaning → Edit) (before after : List ℕ) (made : Meaning) → Rewritten before after made → (Canonical before → Canonical after) → first_refusal (edit (of_page before)).reasons ≡ None → (edit (of_page before)).made ≡ made → Owed true edit before after
accepted edit before after made w canonical passes is = record {
  told = (passes, w.meaning ∙ sym is);
  kept = record { size = w.size; materials = w.materials; units = w.units; beyond = w.beyond; canonical = canonical };
  shut = λ e. cc;
}

-- the line of a unit of an open book begins where its number says on the page in the bytes
on_page : (bytes : List ℕ) (k : ℕ) (line : UnitLine) → UnitAt true bytes k line → (line.start ≡ line_start (materials_on bytes) (unit k)) × (line.materials ≡ materials_on bytes)
on_page bytes k line at =
    let count = count_materials bytes in
    (ap (λ (x : UnitLine). x.start) at.place ∙ ap (λ l. line_start l (unit k)) count, ap (λ (x : UnitLine). x.materials) at.place ∙ count)

-- and has all its bytes
unit_long : (bytes : List ℕ) (k : ℕ) (line : UnitLine) → UnitAt true bytes k line → length (line_bytes bytes (materials_on bytes) (unit k)) ≡ 87
unit_long bytes k line at = length_line bytes (materials_on bytes) (unit k) (omega (arith, at.whole, (on_page bytes k line at).0))

-- and its lists are those in it
lists_there : (bytes : List ℕ) (start place materials l : ℕ) → start ≡ place → materials ≡ l → ◌≡◌ {A = Fitted} (record { inputs = list_in materials (inputs_in (take 87 (drop start bytes))); outputs = list_in materials (outputs_in (take 87 (drop start bytes))) }) (record { inputs = list_in l (inputs_in (take 87 (drop place bytes))); outputs = list_in l (outputs_in (take 87 (drop place bytes))) })
lists_there bytes start place materials l p q = rw (p, q)

-- a letter that is written for a kind of state tells that kind
letter_state : (s : State) (f : Fitted) → state_by (letter_of_state s) f ≡ in_state s f
letter_state Free f = refl
letter_state Standing f = refl
letter_state Withheld f = refl

-- such an edit of unit k, whose new line means the state that the edit makes, and on a page is the line for that state
pub unit_owed : (is_open : Bool) (edit : Meaning → Edit) (bytes new after : List ℕ) (k : ℕ) (line : UnitLine) (s : UnitState)
    → UnitAt is_open bytes k line
    → after ≡ over line.start new bytes
    → length new ≡ 87
    → unit_in (materials_on bytes) new ≡ s
    → (Canonical bytes → new ≡ unit_line k s)
    → first_refusal (edit (meaning_of is_open bytes)).reasons ≡ None
    → (edit (meaning_of is_open bytes)).made ≡ with_unit (meaning_of is_open bytes) k s
    → Owed is_open edit bytes after
unit_owed false edit bytes new after k line s at written long means canonical passes made = absurd (none_inside k at.there)
unit_owed true edit bytes new after k line s at written long means canonical passes made =
    let p = line_start (materials_on bytes) (unit k) in
    let h = unit_inside bytes k at.there in
    let is : after ≡ over p new bytes = written ∙ ap (λ i. over i new bytes) (on_page bytes k line at).0 in
    subst (λ (t : List ℕ). Owed true edit bytes t) (sym is)
    (accepted edit bytes (over p new bytes) (with_unit (of_page bytes) k (unit_in (materials_on bytes) new)) (unit_over bytes new k h.0 h.1 long)
    (λ c. unit_canonical bytes new k s (page_well_formed bytes) h.0 h.1 c long (canonical c) means)
    passes (made ∙ ap (with_unit (of_page bytes) k) (sym means)))

-- an edit that overwrites only the letter of unit k: its state was of one kind, and is of another then, with the same lists
module _ (was is : State) (relettered : (k : ℕ) (f : Fitted) → set (unit_line k (in_state was f)) 0 (letter_of_state is) ≡ unit_line k (in_state is f)) where
  pub letter_owed : (is_open : Bool) (edit : Meaning → Edit) (bytes : List ℕ) (k : ℕ) (line : UnitLine) (letter : ℕ)
      → UnitAt is_open bytes k line
      → line.state ≡ was
      → letter ≡ letter_of_state is
      → first_refusal (edit (meaning_of is_open bytes)).reasons ≡ None
      → ((f : Fitted) → state_at (meaning_of is_open bytes) k ≡ in_state was f → (edit (meaning_of is_open bytes)).made ≡ with_unit (meaning_of is_open bytes) k (in_state is f))
      → Owed is_open edit bytes (set bytes line.start letter)
  letter_owed false edit bytes k line letter at kind e passes made = absurd (none_inside k at.there)
  letter_owed true edit bytes k line letter at kind e passes made =
      let l = materials_on bytes in
      let b = letter_of_state is in
      let h = unit_inside bytes k at.there in
      let place = on_page bytes k line at in
      let old = line_bytes bytes l (unit k) in
      let long : length old ≡ 87 = unit_long bytes k line at in
      let f : Fitted = record { inputs = list_in l (inputs_in old); outputs = list_in l (outputs_in old) } in
      let lists : lists_in bytes line ≡ f = lists_there bytes line.start (line_start l (unit k)) line.materials l place.0 place.1 in
      let state : state_at (of_page bytes) k ≡ in_state was f = at.state ∙ (ap (λ s. in_state s (lists_in bytes line)) kind ∙ ap (in_state was) lists) in
      unit_owed true edit bytes (set old 0 b) (set bytes line.start letter) k line (in_state is f) at
      (ap (set bytes line.start) e
      ∙ (set_over bytes line.start 87 b (omega arith) at.whole ∙ ap (λ i. over line.start (set (take 87 (drop i bytes)) 0 b) bytes) place.0))
      (length-set old 0 b ∙ long)
      (letter_in l old b (omega arith) ∙ letter_state is f)
      (λ c. ap (λ (t : List ℕ). set t 0 b) (unit_line_there bytes k (page_well_formed bytes) c h.0 h.1 ∙ ap (unit_line k) state) ∙ relettered k f)
      passes (made f state)

-- an edit that gives unit k the letter and the lists of a state
pub refit_owed : (is_open : Bool) (edit : Meaning → Edit) (bytes after : List ℕ) (k : ℕ) (line : UnitLine) (s : UnitState)
    → UnitAt is_open bytes k line
    → Writable line.materials s
    → after ≡ over line.start (refitted (state_letter s) (lists_of s) (take 87 (drop line.start bytes))) bytes
    → first_refusal (edit (meaning_of is_open bytes)).reasons ≡ None
    → (edit (meaning_of is_open bytes)).made ≡ with_unit (meaning_of is_open bytes) k s
    → Owed is_open edit bytes after
refit_owed false edit bytes after k line s at fits written passes made = absurd (none_inside k at.there)
refit_owed true edit bytes after k line s at fits written passes made =
    let l = materials_on bytes in
    let h = unit_inside bytes k at.there in
    let place = on_page bytes k line at in
    let old = line_bytes bytes l (unit k) in
    let long : length old ≡ 87 = unit_long bytes k line at in
    let few = few_materials bytes in
    let fits_l : Writable l s = subst (λ n. Writable n s) place.1 fits in
    let new : List ℕ → List ℕ = refitted (state_letter s) (lists_of s) in
    unit_owed true edit bytes (new old) after k line s at
    (written ∙ ap (λ i. over line.start (new (take 87 (drop i bytes))) bytes) place.0)
    (length_refitted l s old few fits_l long)
    (refitted_means l s old few fits_l long)
    (λ c. refitted_line l s old few fits_l long k (unit_in l old) (omega (arith, h.1, few_units bytes)) (unit_within l old) (unit_line_there bytes k (page_well_formed bytes) c h.0 h.1 ∙ ap (unit_line k) (state_in bytes k h.0 h.1)))
    passes made

-- an edit that overwrites the letter of material k by that of a class
pub class_owed : (is_open : Bool) (edit : Meaning → Edit) (bytes : List ℕ) (k start letter : ℕ) (w b : Bool)
    → inside k (material_count (meaning_of is_open bytes)) ≡ true
    → start ≡ line_start 0 (material k)
    → letter ≡ class_letter w b
    → first_refusal (edit (meaning_of is_open bytes)).reasons ≡ None
    → (edit (meaning_of is_open bytes)).made ≡ with_material (meaning_of is_open bytes) k (record { wanted = w; bought = b })
    → Owed is_open edit bytes (set bytes start letter)
class_owed false edit bytes k start letter w b there place class passes made = absurd (none_inside k there)
class_owed true edit bytes k start letter w b there place class passes made =
    let h = material_inside bytes k there in
    let whole = (material_there true bytes k there).whole in
    let p = line_start 0 (material k) in
    let old = line_bytes bytes 0 (material k) in
    let long : length old ≡ 7 = length_line bytes 0 (material k) whole in
    let x : Material = record { wanted = w; bought = b } in
    let line = set old 0 (class_letter w b) in
    let long_line : length line ≡ 7 = length-set old 0 (class_letter w b) ∙ long in
    let formed = page_well_formed bytes in
    let means : material_in line ≡ x = class_in old w b (omega arith) in
    let is : set bytes start letter ≡ over p line bytes =
    ap (set bytes start) class ∙ (ap (λ i. set bytes i (class_letter w b)) place ∙ set_over bytes p 7 (class_letter w b) (omega arith) whole) in
    let on_page : Canonical bytes → line ≡ material_line k x = λ c. ap (λ (t : List ℕ). set t 0 (class_letter w b)) (material_line_there bytes k formed c h.0 h.1) ∙ class_line k (material_at (of_page bytes) k) x in
    subst (λ (t : List ℕ). Owed true edit bytes t) (sym is)
    (accepted edit bytes (over p line bytes) (with_material (of_page bytes) k (material_in line)) (material_over bytes line k h.0 h.1 long_line)
    (λ c. material_canonical bytes line k x formed h.0 h.1 c (on_page c) means long_line)
    passes (made ∙ ap (with_material (of_page bytes) k) (sym means)))
