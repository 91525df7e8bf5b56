-- What a unit's list names, by the places of its entries.
use Rattle.std.proofs.Common.{◌≡◌, ℕ, zero, suc, ◌+◌, ◌-◌, ◌*◌, ◌/◌, ◌%◌, ◌<◌, ◌≤◌, min, true, eqb, List, [], ◌∷◌, length, get_or, drop, sym, ap, ◌∙◌, ⊎_elim, arith}
use Rattle.std.proofs.lemmas.List.{get_or-take, get_or-drop, length-take, length-drop, get_or_past}
use Rattle.std.proofs.lemmas.Bool.{or_cases, or_left, or_right, eqb-true, eq-eqb, false≢true, cases_lt}
use Rattle.book.specs.Layers.{names}
use Rattle.drawing.specs.declared.lists.SideLists.{SideLists}
use Rattle.drawing.specs.Sides.{list_at}

-- a list names what stands at one of its places, and nothing else
pub names_place : (x : ℕ) (xs : List ℕ) → names x xs ≡ true → (k : ℕ) × (k < length xs) × (get_or xs k 0 ≡ x)
names_place x [] e = absurd (false≢true e)
names_place x (y ∷ ys) e =
    ⊎_elim (λ (i : eqb x y ≡ true). (0, omega arith, sym (eqb-true x y i)))
    (λ (i : names x ys ≡ true). let w = names_place x ys i in (suc w.0, omega (arith, w.1), w.2))
    (or_cases (eqb x y) (names x ys) e)

pub place_names : (x : ℕ) (xs : List ℕ) (k : ℕ) → k < length xs → get_or xs k 0 ≡ x → names x xs ≡ true
place_names x [] k h e = absurd (omega arith)
place_names x (y ∷ ys) zero h e = or_left (eqb x y) (names x ys) (eq-eqb x y (sym e))
place_names x (y ∷ ys) (suc k) h e = or_right (eqb x y) (names x ys) (place_names x ys k (omega arith) e)

module _ (s : SideLists) where
  -- units past the last have no entries
  pub past_units : (u j : ℕ) → j < get_or s.counts u 0 → u < 1025
  past_units u j h =
      ⊎_elim (λ (i : u < 1025). i) (λ (i : 1025 ≤ u). absurd (omega (arith, get_or_past s.counts u 0 (omega (arith, s.walkable.counts_long))))) (cases_lt u 1025)

  pub list_long : (u : ℕ) → u < 1025 → length (list_at s u) ≡ get_or s.counts u 0
  list_long u h = length-take (get_or s.counts u 0) (drop (8 * u) s.entries) ∙ short
    where
      rest : length (drop (8 * u) s.entries) ≡ 8200 - 8 * u
      rest = length-drop (8 * u) s.entries ∙ ap (λ (n : ℕ). n - 8 * u) s.walkable.entries_long

      short : min (get_or s.counts u 0) (length (drop (8 * u) s.entries)) ≡ get_or s.counts u 0
      short = omega (arith, rest, s.walkable.few u)

  -- the entry at place j of unit u
  pub list_place : (u j : ℕ) → j < get_or s.counts u 0 → get_or (list_at s u) j 0 ≡ get_or s.entries (8 * u + j) 0
  list_place u j h = get_or-take (get_or s.counts u 0) (drop (8 * u) s.entries) j 0 h ∙ get_or-drop (8 * u) s.entries j 0

  pub named_at : (u j x : ℕ) → j < get_or s.counts u 0 → get_or s.entries (8 * u + j) 0 ≡ x → names x (list_at s u) ≡ true
  named_at u j x h e =
      place_names x (list_at s u) j (omega (arith, list_long u (past_units u j h))) (list_place u j h ∙ e)

  pub named_place : (u x : ℕ) → names x (list_at s u) ≡ true → (j : ℕ) × (j < get_or s.counts u 0) × (get_or s.entries (8 * u + j) 0 ≡ x)
  named_place u x e =
      let w = names_place x (list_at s u) e in
      let h : w.0 < get_or s.counts u 0 = omega (arith, w.1, length-take (get_or s.counts u 0) (drop (8 * u) s.entries)) in
      (w.0, h, sym (list_place u w.0 h) ∙ w.2)

  -- an entry that holds a material stands in the list of the unit to which its place belongs
  pub entry_named : (e x : ℕ) → 1 ≤ x → get_or s.entries e 0 ≡ x → names x (list_at s (e / 8)) ≡ true
  entry_named e x p i =
      let split : e ≡ 8 * (e / 8) + e % 8 = omega arith in
      let at : get_or s.entries (8 * (e / 8) + e % 8) 0 ≡ x = ap (λ (k : ℕ). get_or s.entries k 0) (sym split) ∙ i in
      ⊎_elim (λ (h : e % 8 < get_or s.counts (e / 8) 0). named_at (e / 8) (e % 8) x h at)
      (λ (h : get_or s.counts (e / 8) 0 ≤ e % 8). absurd (omega (arith, at, s.walkable.unlisted (e / 8) (e % 8) h (omega arith))))
      (cases_lt (e % 8) (get_or s.counts (e / 8) 0))
