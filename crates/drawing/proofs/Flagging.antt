-- Flags that are set one by one.
use Rattle.std.proofs.Common.{◌≡◌, ℕ, ◌<◌, ◌≤◌, Bool, true, false, ◌⊎◌, List, length, get_or, set, Decides, sym, ap, ◌∙◌, inl, inr, ⊎_elim}
use Rattle.std.proofs.lemmas.List.{get_or-set_same, get_or-set_other, get_or_past}
use Rattle.std.proofs.lemmas.Bool.{cases_eq, cases_lt, false≢true}
use Rattle.structure.specs.Problem.{Member}
use Rattle.drawing.specs.Flags.{flagged}

-- one flag more is set
pub flag_more : (flags : List Bool) (i x : ℕ) → i < length flags → Decides (flagged (set flags i true) x) (Member (flagged flags) x ⊎ (i ≡ x))
flag_more flags i x h =
    ⊎_elim
    (λ (e : x ≡ i). (λ _. inr (sym e), λ _. ap (λ (k : ℕ). get_or (set flags i true) k false) e ∙ get_or-set_same flags i true false h))
    (λ (e : x ≡ i → ⊥). let same = get_or-set_other flags i x true false e in (
      λ m. inl (sym same ∙ m),
      λ w. ⊎_elim (λ m. same ∙ m) (λ (q : i ≡ x). absurd (e (sym q))) w,
    ))
    (cases_eq x i)

-- a flag that is set lies within the list
pub flag_within : (flags : List Bool) (x : ℕ) → Member (flagged flags) x → x < length flags
flag_within flags x m =
    ⊎_elim (λ (h : x < length flags). h) (λ (h : length flags ≤ x). absurd (false≢true (sym (get_or_past flags x false h) ∙ m))) (cases_lt x (length flags))
