-- What every book owes.
use Rattle.std.specs.Prelude.{◌≡◌, refl}
use Rattle.std.proofs.Common.{◌∙◌}
use Rattle.book.specs.Meaning.{Meaning, WellFormed}

-- the meaning is well-formed, always; and the frame, by which a book says what no call changes, holds of a book
-- that did not change and over any run of calls
pub record Laws {B : Type 0} (meaning : B → Meaning) (kept : B → B → Type 0) : Type 0 where
  pub well_formed : (b : B) → WellFormed (meaning b)
  pub keeps : (b : B) → kept b b
  pub chains : (a b c : B) → kept a b → kept b c → kept a c

-- the laws of a book that is lent: R is the reference, `name` says where it points and `now` what it points to
pub lent_laws : {B R N : Type 0} {meaning : B → Meaning} {kept : B → B → Type 0} (name : R → N) (now : R → B)
    → Laws meaning kept
    → Laws {B = R} (λ s. meaning (now s)) (λ s t. (name t ≡ name s) × kept (now s) (now t))
lent_laws name now l = record {
  well_formed = λ s. l.well_formed (now s);
  keeps = λ s. (refl, l.keeps (now s));
  chains = λ a b c v w. (w.0 ∙ v.0, l.chains (now a) (now b) (now c) v.1 w.1);
}
