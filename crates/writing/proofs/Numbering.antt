-- The lines of a page, one after another. Assumes nothing.
use Rattle.std.proofs.Common.{◌≡◌, ℕ, ◌+◌, ◌-◌, ◌*◌, ◌≤◌, List, [], ◌∷◌, ◌++◌, length, get_or, take, drop, ap, ◌∙◌, arith}
use Rattle.std.proofs.lemmas.List.{append-nil, length-take-le, take_all, take_more}
use Rattle.std.proofs.lemmas.Grind.{common_steps}
use borrow.Rule.Slice.PartMut.{put_mid}
use Rattle.page.specs.Format.{numbered}
use Rattle.writing.proofs.Putting.{PutBefore, put_next, put_whole}

module _ {X : Type 0} (line : ℕ → X → List ℕ) where
  -- one line more at the end
  numbered_push : (k : ℕ) (xs : List X) (x : X) → numbered line k (xs ++ x ∷ []) ≡ numbered line k xs ++ line (k + length xs) x
  numbered_push k [] x =
      let here : k ≡ k + 0 = omega arith in
      append-nil (line k x) ∙ ap (λ i. line i x) here
  numbered_push k (y ∷ ys) x =
      let next : k + 1 + length ys ≡ k + length (y ∷ ys) = omega arith in
      grind (arith, common_steps, numbered_push (k + 1) ys x)

  -- the first lines, and the one with the next number
  pub lines_step : (k : ℕ) (xs : List X) (d x : X) → 1 ≤ k → k ≤ length xs → x ≡ get_or xs (k - 1) d → numbered line 1 (take (k - 1) xs) ++ line k x ≡ numbered line 1 (take k xs)
  lines_step k xs d x low high e =
      let number : 1 + length (take (k - 1) xs) ≡ k = omega (arith, length-take-le (k - 1) xs (omega arith)) in
      let next : k - 1 + 1 ≡ k = omega arith in
      let more = numbered_push 1 (take (k - 1) xs) x in
      let here = take_more xs (k - 1) d (omega arith) in
      cc

  -- a turn of a loop that puts line after line, w bytes each
  pub line_put : {w number r : ℕ} {bytes part : List ℕ} {xs : List X} {x : X} (d : X) → PutBefore w number bytes (λ k. numbered line 1 (take k xs)) → r ≡ number - 1 → 1 ≤ number → number ≤ length xs → w * number ≤ length bytes → length part ≡ length (take (w * r + w - w * r) (drop (w * r) bytes)) → part ≡ line number x → x ≡ get_or xs (number - 1) d → PutBefore w (number + 1) (put_mid (w * r) (w * r + w - w * r) bytes part) (λ k. numbered line 1 (take k xs))
  line_put {number = number} {part = part} {xs = xs} {x = x} d so_far turns low high room same said e =
      put_next part so_far turns low room same (ap (λ t. numbered line 1 (take (number - 1) xs) ++ t) said ∙ lines_step number xs d x low high e)

  -- and after the last turn all are put
  pub lines_put : {w number : ℕ} {bytes : List ℕ} {xs : List X} → PutBefore w number bytes (λ k. numbered line 1 (take k xs)) → number - 1 ≡ length xs → length bytes ≤ w * length xs → bytes ≡ numbered line 1 xs
  lines_put {xs = xs} so_far end size =
      put_whole (length xs) so_far end size ∙ ap (numbered line 1) (take_all (length xs) xs (omega arith))
