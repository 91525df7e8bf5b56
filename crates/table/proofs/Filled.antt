-- Rows that are written one after another, up to the last that is used.
use Rattle.std.proofs.Common.{◌≡◌, ℕ, ◌+◌, ◌<◌, ◌≤◌, List, [], ◌∷◌, ◌++◌, length, get_or, drop, set, replicate, sym, ap, ◌∙◌, ⊎_elim, append_assoc, arith}
use Rattle.std.proofs.lemmas.List.{set_at, drop_more, replicate_more, drop_all, length-replicate}
use Rattle.std.proofs.lemmas.Bool.{cases_lt}
use Rattle.table.specs.Rows.{used, most_rows}

-- a loop that writes y over each row of d, one row on
pub fill_more : {X : Type 0} (i : ℕ) (y : X) (d : List X) → i < length d → set (replicate i y ++ drop i d) i y ≡ replicate (i + 1) y ++ drop (i + 1) d
fill_more i y d h =
    ap (λ zs. set (replicate i y ++ zs) i y) (drop_more d i y h)
    ∙ set_at (replicate i y) (get_or d i y) (drop (i + 1) d) y i (length-replicate i y)
    ∙ sym (append_assoc (replicate i y) (y ∷ []) (drop (i + 1) d))
    ∙ ap (λ zs. zs ++ drop (i + 1) d) (replicate_more i y)

-- past the rows that are used are those past the most that can be
pub drop_used : {X : Type 0} (d : List X) → drop (used d) d ≡ drop most_rows d
drop_used d =
    ⊎_elim
    (λ (few : length d < most_rows). let n : used d ≡ length d = omega arith in drop_all (used d) d (omega arith) ∙ sym (drop_all most_rows d (omega arith)))
    (λ (many : most_rows ≤ length d). let n : used d ≡ most_rows = omega arith in ap (λ k. drop k d) n)
    (cases_lt (length d) most_rows)

-- the rows that such a loop has left so far, after one turn more
pub fill_step : {X : Type 0} (i : ℕ) (y : X) (now d : List X) → now ≡ replicate i y ++ drop i d → i < length d → set now i y ≡ replicate (i + 1) y ++ drop (i + 1) d
fill_step i y now d so_far h = ap (λ zs. set zs i y) so_far ∙ fill_more i y d h

-- and at its end: the rows that are used are all y, and the others are as they were
pub fill_end : {X : Type 0} (i : ℕ) (y : X) (now d : List X) → now ≡ replicate i y ++ drop i d → i ≡ used d → now ≡ replicate (used d) y ++ drop most_rows d
fill_end i y now d so_far all =
    so_far ∙ ap (λ n. replicate n y ++ drop n d) all ∙ ap (λ rest. replicate (used d) y ++ rest) (drop_used d)
