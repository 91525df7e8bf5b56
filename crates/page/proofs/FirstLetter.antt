-- What a letter is read as, and whether it may begin a line. Assumes nothing.
use Rattle.std.proofs.Common.{◌≡◌, ℕ, zero, suc, ◌<◌, Bool, [], ◌∷◌, true, false, Some, None, Option, Result, sym, ap, arith}
use Rattle.std.proofs.lemmas.Option.{none-some}
use Rattle.std.specs.List.{slice_index}
use Rattle.std.specs.Option.{ok_or}
use Rattle.book.specs.declared.books.Class.{Class}
use Rattle.book.specs.declared.books.State.{State}
use Rattle.book.specs.declared.books.State.TheVariants.{Free, Standing}
use Rattle.page.specs.Format.{class_letter}
use Rattle.page.specs.Letters.{letter_of_state, StandsFor}
use Rattle.page.specs.Readers.{FieldTold}
use Rattle.page.specs.Rules.{Right, letter}
use Rattle.page.specs.declared.field.FieldFault.{FieldFault}

-- the letter of a class is one of the four
class_one : (wanted bought : Bool) (byte : ℕ) → class_letter wanted bought ≡ byte → Right (letter (45 ∷ (80 ∷ (82 ∷ (66 ∷ []))))) (byte ∷ [])
class_one false false byte e = (0, omega arith, ap (λ b. b ∷ []) (sym e))
class_one true false byte e = (1, omega arith, ap (λ b. b ∷ []) (sym e))
class_one false true byte e = (2, omega arith, ap (λ b. b ∷ []) (sym e))
class_one true true byte e = (3, omega arith, ap (λ b. b ∷ []) (sym e))

-- and each of the four is the letter of a class
one_class : (byte i : ℕ) → i < 4 → byte ∷ [] ≡ slice_index (45 ∷ (80 ∷ (82 ∷ (66 ∷ [])))) i ∷ [] → (c : Class) × (class_letter c.wanted c.bought ≡ byte)
one_class byte zero h e = (record { wanted = false; bought = false }, sym cc)
one_class byte (suc zero) h e = (record { wanted = true; bought = false }, sym cc)
one_class byte (suc (suc zero)) h e = (record { wanted = false; bought = true }, sym cc)
one_class byte (suc (suc (suc zero))) h e = (record { wanted = true; bought = true }, sym cc)
one_class byte (suc (suc (suc (suc i)))) h e = absurd (omega arith)

-- a class that was read from a letter: the letter is one of the four, and no other letter is read
pub class_told : (byte : ℕ) (o : Option Class) (fault : FieldFault) (r : Result Class FieldFault) → StandsFor (λ c. class_letter c.wanted c.bought) byte o → r ≡ ok_or o fault → FieldTold (letter (45 ∷ (80 ∷ (82 ∷ (66 ∷ []))))) (byte ∷ []) r
class_told byte (Some c) fault r s e = rw e (class_one c.wanted c.bought byte s)
class_told byte None fault r s e = rw e (λ r. let p = one_class byte r.0 r.1 r.2 in s p.0 p.1)

-- a letter that is read as no state begins no unit's line
pub no_state : (byte : ℕ) (o : Option State) → o ≡ None → StandsFor letter_of_state byte o → Right (letter (45 ∷ (83 ∷ []))) (byte ∷ []) → ⊥
no_state byte None e s (zero, h, is) = s Free (sym cc)
no_state byte None e s (suc zero, h, is) = s Standing (sym cc)
no_state byte None e s (suc (suc i), h, is) = absurd (omega arith)
no_state byte (Some x) e s r = none-some x (sym e)
