-- One more entry at the end of a unit's list. The units after it have no entry yet.
use Rattle.std.proofs.Common.{◌≡◌, ℕ, ◌+◌, ◌-◌, ◌*◌, ◌/◌, ◌%◌, ◌<◌, ◌≤◌, eqb, List, [], ◌∷◌, ◌++◌, length, get_or, take, drop, set, replicate, sym, refl, ap, ◌∙◌, subst, ⊎_elim, arith}
use Rattle.std.proofs.lemmas.List.{get_or-set_same, get_or-set_other, get_or_past, get_or-replicate, length-replicate, length-set, length-take, length-drop, drop-set-add, drop-set-lt, take-set-le, take_more_set}
use Rattle.std.proofs.lemmas.Bool.{cases_eq, cases_lt, eq-eqb, ne_eqb, cond-true, cond-false}
use Rattle.drawing.specs.declared.lists.SideLists.{SideLists}
use Rattle.drawing.specs.Lists.{listed, Walkable, with_entry}
use Rattle.drawing.specs.Sides.{list_at}
use Rattle.drawing.proofs.Linking.{linked_more, linked_none}

-- a unit's list is as long as its count
length_list : (s : SideLists) (u : ℕ) → u ≤ 1024 → length (list_at s u) ≡ get_or s.counts u 0
length_list s u k = omega (arith, length-take (get_or s.counts u 0) (drop (8 * u) s.entries), length-drop (8 * u) s.entries, s.walkable.few u, s.walkable.entries_long)

-- so where it is empty the count is 0
count_none : (s : SideLists) (u : ℕ) → list_at s u ≡ [] → get_or s.counts u 0 ≡ 0
count_none s u e =
    ⊎_elim
    (λ (l : u < 1025). sym (length_list s u (omega arith)) ∙ ap length e)
    (λ (l : 1025 ≤ u). get_or_past s.counts u 0 (omega (arith, s.walkable.counts_long)))
    (cases_lt u 1025)

pub count_short : (s : SideLists) (u : ℕ) → u ≤ 1024 → length (list_at s u) < 8 → get_or s.counts u 0 < 8
count_short s u k l = omega (arith, length_list s u k)

-- the counts and the entries with one more entry
abbrev pub counts' : SideLists → ℕ → List ℕ
counts' s u = set s.counts u (get_or s.counts u 0 + 1)

abbrev pub entries' : SideLists → ℕ → ℕ → List ℕ
entries' s u x = set s.entries (8 * u + get_or s.counts u 0) x

module _ (s : SideLists) (u x : ℕ) (known : u ≤ 1024) (some : 1 ≤ x) (small : x ≤ 1024)
    (room : length (list_at s u) < 8) (last : (v : ℕ) → u < v → list_at s v ≡ []) where
  few_yet : get_or s.counts u 0 < 8
  few_yet = count_short s u known room

  -- all places from the new one on hold 0
  empty_after : (e : ℕ) → 8 * u + get_or s.counts u 0 ≤ e → get_or s.entries e 0 ≡ 0
  empty_after e l =
      let v = e / 8 in
      let j = e % 8 in
      let parts : e ≡ 8 * v + j = omega arith in
      let inside : j < 8 = omega arith in
      ap (λ (z : ℕ). get_or s.entries z 0) parts ∙
      ⊎_elim
      (λ (c : u < v). s.walkable.unlisted v j (omega (arith, count_none s v (last v c))) inside)
      (λ (c : v ≤ u).
      let same : v ≡ u = omega (arith, few_yet) in
      s.walkable.unlisted v j (subst (λ (w : ℕ). get_or s.counts w 0 ≤ j) (sym same) (omega arith)) inside)
      (cases_lt u v)

  own_count : get_or (counts' s u) u 0 ≡ get_or s.counts u 0 + 1
  own_count = get_or-set_same s.counts u (get_or s.counts u 0 + 1) 0 (omega (arith, s.walkable.counts_long))

  other_count : (v : ℕ) → (v ≡ u → ⊥) → get_or (counts' s u) v 0 ≡ get_or s.counts v 0
  other_count v d = get_or-set_other s.counts u v (get_or s.counts u 0 + 1) 0 d

  in_entries : 8 * u + get_or s.counts u 0 < length s.entries
  in_entries = omega (arith, few_yet, s.walkable.entries_long)

  own_entry : get_or (entries' s u x) (8 * u + get_or s.counts u 0) 0 ≡ x
  own_entry = get_or-set_same s.entries (8 * u + get_or s.counts u 0) x 0 in_entries

  other_entry : (e : ℕ) → (e ≡ 8 * u + get_or s.counts u 0 → ⊥) → get_or (entries' s u x) e 0 ≡ get_or s.entries e 0
  other_entry e d = get_or-set_other s.entries (8 * u + get_or s.counts u 0) e x 0 d

  listed_more : (v j : ℕ) → j < get_or (counts' s u) v 0 → 1 ≤ get_or (entries' s u x) (8 * v + j) 0
  listed_more v j l =
      ⊎_elim
      (λ (c : v ≡ u).
      let here : j < get_or s.counts u 0 + 1 = subst (λ (n : ℕ). j < n) own_count (subst (λ (w : ℕ). j < get_or (counts' s u) w 0) c l) in
      subst (λ (w : ℕ). 1 ≤ get_or (entries' s u x) (8 * w + j) 0) (sym c) (
      ⊎_elim
      (λ (d : j ≡ get_or s.counts u 0). subst (λ (k : ℕ). 1 ≤ get_or (entries' s u x) (8 * u + k) 0) (sym d) (omega (arith, own_entry)))
      (λ (d : j ≡ get_or s.counts u 0 → ⊥). omega (arith, other_entry (8 * u + j) (omega arith), s.walkable.listed u j (omega arith)))
      (cases_eq j (get_or s.counts u 0))))
      (λ (c : v ≡ u → ⊥). omega (arith, other_entry (8 * v + j) (omega (arith, few_yet, s.walkable.few v, other_count v c)), s.walkable.listed v j (omega (arith, other_count v c))))
      (cases_eq v u)

  unlisted_more : (v j : ℕ) → get_or (counts' s u) v 0 ≤ j → j < 8 → get_or (entries' s u x) (8 * v + j) 0 ≡ 0
  unlisted_more v j l i =
      ⊎_elim
      (λ (c : v ≡ u).
      let here : get_or s.counts u 0 + 1 ≤ j = subst (λ (n : ℕ). n ≤ j) own_count (subst (λ (w : ℕ). get_or (counts' s u) w 0 ≤ j) c l) in
      subst (λ (w : ℕ). get_or (entries' s u x) (8 * w + j) 0 ≡ 0) (sym c)
      (other_entry (8 * u + j) (omega arith) ∙ s.walkable.unlisted u j (omega arith) i))
      (λ (c : v ≡ u → ⊥). other_entry (8 * v + j) (omega (arith, few_yet)) ∙ s.walkable.unlisted v j (omega (arith, other_count v c)) i)
      (cases_eq v u)

  pub walkable_more : Walkable (counts' s u) (entries' s u x) (set s.links (8 * u + get_or s.counts u 0) (get_or s.heads x 0)) (set s.heads x (8 * u + get_or s.counts u 0 + 1))
  walkable_more = record {
    counts_long = length-set s.counts u (get_or s.counts u 0 + 1) ∙ s.walkable.counts_long;
    entries_long = length-set s.entries (8 * u + get_or s.counts u 0) x ∙ s.walkable.entries_long;
    links_long = length-set s.links (8 * u + get_or s.counts u 0) (get_or s.heads x 0) ∙ s.walkable.links_long;
    heads_long = length-set s.heads x (8 * u + get_or s.counts u 0 + 1) ∙ s.walkable.heads_long;
    few = λ v.
        ⊎_elim
        (λ (c : v ≡ u). subst (λ (w : ℕ). get_or (counts' s u) w 0 ≤ 8) (sym c) (omega (arith, own_count, few_yet)))
        (λ (c : v ≡ u → ⊥). omega (arith, other_count v c, s.walkable.few v))
        (cases_eq v u);
    listed = listed_more;
    unlisted = unlisted_more;
    known = λ e.
        ⊎_elim
        (λ (c : e ≡ 8 * u + get_or s.counts u 0). subst (λ (z : ℕ). get_or (entries' s u x) z 0 ≤ 1024) (sym c) (omega (arith, own_entry)))
        (λ (c : e ≡ 8 * u + get_or s.counts u 0 → ⊥). omega (arith, other_entry e c, s.walkable.known e))
        (cases_eq e (8 * u + get_or s.counts u 0));
    chained =
        linked_more s.entries s.links s.heads (8 * u + get_or s.counts u 0) x 8200 s.walkable.chained empty_after some
        (omega (arith, few_yet)) in_entries (omega (arith, few_yet, s.walkable.links_long)) (omega (arith, s.walkable.heads_long));
  }

  own_list : listed (counts' s u) (entries' s u x) u ≡ list_at s u ++ (x ∷ [])
  own_list =
      let n = get_or s.counts u 0 in
      ap (λ (k : ℕ). take k (drop (8 * u) (set s.entries (8 * u + n) x))) own_count
      ∙ (ap (take (n + 1)) (drop-set-add (8 * u) s.entries n x)
      ∙ take_more_set (drop (8 * u) s.entries) n x (omega (arith, length-drop (8 * u) s.entries, in_entries)))

  -- a list is not changed by an entry after it or before it
  other_list : (v : ℕ) → (v ≡ u → ⊥) → listed (counts' s u) (entries' s u x) v ≡ list_at s v
  other_list v d =
      let n = get_or s.counts u 0 in
      let k = get_or s.counts v 0 in
      let p = 8 * u + n in
      ap (λ (k : ℕ). take k (drop (8 * v) (set s.entries p x))) (other_count v d) ∙
      ⊎_elim
      (λ (l : v < u).
      let j = p - 8 * v in
      let split : p ≡ 8 * v + j = omega arith in
      ap (λ (z : ℕ). take k (drop (8 * v) (set s.entries z x))) split
      ∙ (ap (take k) (drop-set-add (8 * v) s.entries j x)
      ∙ take-set-le k (drop (8 * v) s.entries) j x (omega (arith, s.walkable.few v))))
      (λ (l : u ≤ v). ap (take k) (drop-set-lt (8 * v) s.entries p x (omega (arith, few_yet))))
      (cases_lt v u)

  pub lists_more : (v : ℕ) → listed (counts' s u) (entries' s u x) v ≡ with_entry (list_at s) u x v
  lists_more v =
      ⊎_elim
      (λ (c : v ≡ u). subst (λ (w : ℕ). listed (counts' s u) (entries' s u x) w ≡ list_at s w ++ (x ∷ [])) (sym c) own_list ∙ sym (cond-true (eqb v u) (list_at s v ++ (x ∷ [])) (list_at s v) (eq-eqb v u c)))
      (λ (c : v ≡ u → ⊥). other_list v c ∙ sym (cond-false (eqb v u) (list_at s v ++ (x ∷ [])) (list_at s v) (ne_eqb v u c)))
      (cases_eq v u)

-- a list of one value gives it at every place, where it is also the default
pub all_same : {X : Type 0} (n i : ℕ) (d : X) → get_or (replicate n d) i d ≡ d
all_same n i d = ⊎_elim (λ (l : i < n). get_or-replicate n i d d l) (λ (l : n ≤ i). get_or_past (replicate n d) i d (omega (arith, length-replicate n d))) (cases_lt i n)

-- where no place holds anything, all can be walked, and every list is empty
pub walkable_none : Walkable (replicate 1025 0) (replicate 8200 0) (replicate 8200 0) (replicate 1025 0)
walkable_none = none 1025 8200 refl refl
  where
    none : (n k : ℕ) → n ≡ 1025 → k ≡ 8200 → Walkable (replicate n 0) (replicate k 0) (replicate k 0) (replicate n 0)
    none n k numbers places = record {
      counts_long = length-replicate n 0 ∙ numbers;
      entries_long = length-replicate k 0 ∙ places;
      links_long = length-replicate k 0 ∙ places;
      heads_long = length-replicate n 0 ∙ numbers;
      few = λ u. omega (arith, all_same {X = ℕ} n u 0);
      listed = λ u j l. absurd (omega (arith, all_same {X = ℕ} n u 0));
      unlisted = λ u j l i. all_same {X = ℕ} k (8 * u + j) 0;
      known = λ e. omega (arith, all_same {X = ℕ} k e 0);
      chained = linked_none (replicate k 0) (replicate k 0) (replicate n 0) 8200 (λ e. all_same {X = ℕ} k e 0) (λ x. all_same {X = ℕ} n x 0);
    }

pub lists_none : (n k u : ℕ) → listed (replicate n 0) (replicate k 0) u ≡ []
lists_none n k u = ap (λ (c : ℕ). take c (drop (8 * u) (replicate k 0))) (all_same {X = ℕ} n u 0)
