-- What an edit makes that no reason declines. Assumes nothing.
use Rattle.std.proofs.Common.{◌≡◌, ℕ, List, None, Some, Ok, Err, Result, sym, ap, ◌∙◌, subst, arith}
use Rattle.book.specs.declared.Refusal.{Refusal}
use Rattle.book.specs.declared.books.Lists.{Lists}
use Rattle.book.specs.Meaning.{Meaning, standing}
use Rattle.book.specs.Refusals.{first_refusal}
use Rattle.book.specs.Declined.{fit_reasons}
use Rattle.book.specs.Edits.{Edit, Edited, lists_given, fit_edit, with_unit}

not_both : {A : Type 0} (x : Refusal) → None ≡ Some x → A
not_both x e = let w : ◌≡◌ {A = ℕ} 0 1 = cc in absurd (omega arith)

-- an edit of a book that means m, where no reason declines it
pub edit_done : {B : Type 0} (meaning : B → Meaning) (edit : Meaning → Edit) (m : Meaning) (b c : B) (r : Result (Unit {0}) Refusal) → first_refusal (edit m).reasons ≡ None → Edited meaning edit b c r → meaning b ≡ m → meaning c ≡ (edit m).made
edit_done meaning edit m b c (Ok x) free told e = told.1 ∙ ap (λ a. (edit a).made) e
edit_done meaning edit m b c (Err x) free told e =
    not_both x (sym free ∙ subst (λ a. first_refusal (edit a).reasons ≡ Some x) e told.0)

-- a unit that is fitted with the lists that a caller hands over
pub fit_done : {B : Type 0} (meaning : B → Meaning) (k : ℕ) (x : Lists) (is os : List ℕ) (m : Meaning) (b c : B) (r : Result (Unit {0}) Refusal) → x.inputs.now ≡ is → x.outputs.now ≡ os → first_refusal (fit_reasons m k (record { inputs = is; outputs = os })) ≡ None → Edited meaning (fit_edit k (lists_given x)) b c r → meaning b ≡ m → meaning c ≡ with_unit m k (standing (record { inputs = is; outputs = os }))
fit_done meaning k x is os m b c r i o free told e =
    let given : lists_given x ≡ record { inputs = is; outputs = os } =
    ap (λ a. record { inputs = a; outputs = x.outputs.now }) i ∙ ap (λ a. record { inputs = is; outputs = a }) o in
    edit_done meaning (fit_edit k (record { inputs = is; outputs = os })) m b c r free (subst (λ f. Edited meaning (fit_edit k f) b c r) given told) e
