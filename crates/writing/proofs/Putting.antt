-- Bytes put over others, one part after another. Assumes nothing.
use Rattle.std.proofs.Common.{◌≡◌, ℕ, ◌+◌, ◌-◌, ◌*◌, ◌≤◌, List, [], ◌∷◌, ◌++◌, length, take, drop, set, sym, refl, ap, ◌∙◌, subst, mul-suc, arith, length-drop, length-take}
use borrow.Rule.Slice.PartMut.{put_mid}
use Rattle.std.proofs.lemmas.List.{take_all}
use Rattle.std.proofs.lemmas.Slice.{take-put_mid}

-- the only byte of a part is set
pub only_set : (part : List ℕ) (x : ℕ) → length part ≡ 1 → set part 0 x ≡ x ∷ []
only_set [] x e = absurd (omega arith)
only_set (y ∷ []) x e = refl
only_set (y ∷ (z ∷ zs)) x e = absurd (omega arith)

-- what a loop has put before the turn with this number, counted from 1: w bytes in each turn, `said` by all of them
pub record PutBefore (w number : ℕ) (bytes : List ℕ) (said : ℕ → List ℕ) : Type 0 where
  pub put : take (w * (number - 1)) bytes ≡ said (number - 1)

-- a turn puts its part behind what is there, where r turns were before it
pub put_next : {w number r : ℕ} {bytes : List ℕ} {said : ℕ → List ℕ} (part : List ℕ) → PutBefore w number bytes said → r ≡ number - 1 → 1 ≤ number → w * number ≤ length bytes → length part ≡ length (take (w * r + w - w * r) (drop (w * r) bytes)) → said (number - 1) ++ part ≡ said number → PutBefore w (number + 1) (put_mid (w * r) (w * r + w - w * r) bytes part) said
put_next {w} {number} {r} {bytes} {said} part so_far turns low room same step =
    let more : w * number ≡ w * r + w = ap (λ k. w * k) (omega arith) ∙ mul-suc w r in
    let end : w * number ≡ w * r + length part = omega (arith, length-take (w * r + w - w * r) (drop (w * r) bytes), length-drop (w * r) bytes) in
    let front : take (w * r) bytes ≡ said (number - 1) = ap (λ k. take (w * k) bytes) turns ∙ so_far.put in
    let put = take-put_mid (w * r) (w * r + w - w * r) bytes part (w * number) end (omega arith) in
    let back : number + 1 - 1 ≡ number = omega arith in
    record { put = subst (λ k. take (w * k) (put_mid (w * r) (w * r + w - w * r) bytes part) ≡ said k) (sym back) (put ∙ (ap (λ t. t ++ part) front ∙ step)) }

-- after the last turn all is put
pub put_whole : {w number : ℕ} {bytes : List ℕ} {said : ℕ → List ℕ} (count : ℕ) → PutBefore w number bytes said → number - 1 ≡ count → length bytes ≤ w * count → bytes ≡ said count
put_whole {w} {number} {bytes} {said} count so_far end size =
    sym (take_all (w * count) bytes size) ∙ subst (λ k. take (w * k) bytes ≡ said k) end so_far.put
