-- A letter written at the start of a line: what the line is after, and what it means. Assumes nothing.
use Rattle.std.proofs.Common.{◌≡◌, ℕ, ◌<◌, Bool, true, false, eqb, List, [], ◌∷◌, length, set, Some, None, Option, sym, refl, ap, ◌∙◌, arith}
use Rattle.std.specs.Option.{unwrap_or}
use Rattle.std.proofs.lemmas.Bool.{ne_eqb}
use Rattle.book.specs.declared.books.Class.{Class}
use Rattle.book.specs.declared.books.State.{State}
use Rattle.book.specs.declared.books.State.TheVariants.{Free, Standing, Withheld}
use Rattle.book.specs.Meaning.{Material, Fitted}
use Rattle.page.specs.Format.{class_letter, material_line}
use Rattle.page.specs.Letters.{letter_of_state, StandsFor}
use Rattle.page.specs.Rules.{inputs_in, outputs_in}
use Rattle.pagebook.specs.Reading.{list_in, material_in, state_by, unit_in}
use Rattle.pagebook.specs.Places.{class_of, kind_of}

-- a unit's line with another letter means the state of that letter, with the lists that the line had
pub letter_in : (l : ℕ) (line : List ℕ) (b : ℕ) → 0 < length line → unit_in l (set line 0 b) ≡ state_by b (record { inputs = list_in l (inputs_in line); outputs = list_in l (outputs_in line) })
letter_in l [] b some = absurd (omega arith)
letter_in l (x ∷ xs) b some = refl

-- the letter of another class over that of a material makes its line the other's
pub class_line : (k : ℕ) (m m' : Material) → set (material_line k m) 0 (class_letter m'.wanted m'.bought) ≡ material_line k m'
class_line k m m' = refl

-- and the line then means that class
pub class_in : (line : List ℕ) (w b : Bool) → 0 < length line → material_in (set line 0 (class_letter w b)) ≡ record { wanted = w; bought = b }
class_in [] w b some = absurd (omega arith)
class_in (x ∷ xs) true true some = refl
class_in (x ∷ xs) true false some = refl
class_in (x ∷ xs) false true some = refl
class_in (x ∷ xs) false false some = refl

-- the class that the letter of a material's line tells
abbrev class_by : ℕ → Class
class_by letter = class_of (material_in (letter ∷ []))

-- it is the class that the letter was written for
class_written : (w b : Bool) → class_by (class_letter w b) ≡ record { wanted = w; bought = b }
class_written true true = refl
class_written true false = refl
class_written false true = refl
class_written false false = refl

-- and a letter that was written for none tells a plain material
pub class_read : (letter : ℕ) (r : Option Class) → StandsFor (λ (c : Class). class_letter c.wanted c.bought) letter r → unwrap_or r (record { wanted = false; bought = false }) ≡ class_by letter
class_read letter (Some c) e = sym (ap class_by (sym e) ∙ class_written c.wanted c.bought)
class_read letter None e =
    let none-p : eqb letter 80 ≡ false = ne_eqb letter 80 (λ h. e (record { wanted = true; bought = false }) (sym h)) in
    let none-r : eqb letter 82 ≡ false = ne_eqb letter 82 (λ h. e (record { wanted = false; bought = true }) (sym h)) in
    let none-b : eqb letter 66 ≡ false = ne_eqb letter 66 (λ h. e (record { wanted = true; bought = true }) (sym h)) in
    rw (none-p, none-r, none-b)

-- the state that a letter was written for is the one that it tells
state_written : (s : State) (f : Fitted) → kind_of (state_by (letter_of_state s) f) ≡ s
state_written Free f = refl
state_written Standing f = refl
state_written Withheld f = refl

-- and a letter that was written for none tells a free number
pub state_read : (letter : ℕ) (r : Option State) (f : Fitted) → StandsFor letter_of_state letter r → unwrap_or r Free ≡ kind_of (state_by letter f)
state_read letter (Some s) f e = sym (ap (λ x. kind_of (state_by x f)) (sym e) ∙ state_written s f)
state_read letter None f e =
    let none-s : eqb letter 83 ≡ false = ne_eqb letter 83 (λ h. e Standing (sym h)) in
    let none-w : eqb letter 87 ≡ false = ne_eqb letter 87 (λ h. e Withheld (sym h)) in
    rw (none-s, none-w)
