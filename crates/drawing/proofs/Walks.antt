-- A walk along the links of one material gives the units whose lists name it.
use Rattle.std.proofs.Common.{◌≡◌, ℕ, zero, suc, ◌+◌, ◌*◌, ◌/◌, ◌<◌, ◌≤◌, true, eqb, ◌≢◌, ◌⊎◌, List, [], ◌∷◌, get_or, Option, None, Some, sym, refl, ap, ◌∙◌, subst, inl, inr, ⊎_elim, arith}
use Rattle.std.proofs.lemmas.Bool.{cases_eq, cond-true, cond-false, eq-eqb, ne_eqb, false≢true}
use Rattle.book.specs.Layers.{names}
use Rattle.drawing.specs.declared.lists.SideLists.{SideLists}
use Rattle.drawing.specs.Lists.{LastBelow, after}
use Rattle.drawing.specs.Sides.{list_at}
use Rattle.drawing.specs.Units.{units_below, units_up_to}
use Rattle.drawing.proofs.Members.{past_units, named_place, entry_named}
use Rattle.drawing.proofs.Entries.{names_first, names_rest, names_either}

module _ (entries : List ℕ) (x : ℕ) where
  -- a place at which the material stands gives its unit, and another gives none
  below_here : (e : ℕ) → get_or entries e 0 ≡ x → units_below entries x (suc e) ≡ e / 8 ∷ units_below entries x e
  below_here e i = cond-true (eqb (get_or entries e 0) x) (e / 8 ∷ units_below entries x e) (units_below entries x e) (eq-eqb (get_or entries e 0) x i)

  below_other : (e : ℕ) → get_or entries e 0 ≢ x → units_below entries x (suc e) ≡ units_below entries x e
  below_other e i = cond-false (eqb (get_or entries e 0) x) (e / 8 ∷ units_below entries x e) (units_below entries x e) (ne_eqb (get_or entries e 0) x i)

  -- where the material stands at no place from h on, the units are those below h
  below_less : (h n : ℕ) → h ≤ n → ((e : ℕ) → h ≤ e → e < n → get_or entries e 0 ≢ x) → units_below entries x n ≡ units_below entries x h
  below_less h zero l none = ap (units_below entries x) {x = zero} {y = h} (omega arith)
  below_less h (suc n) l none =
      ⊎_elim
      (λ (e : h ≡ suc n). ap (units_below entries x) (sym e))
      (λ (e : h ≡ suc n → ⊥). below_other n (none n (omega arith) (omega arith)) ∙ below_less h n (omega arith) (λ f a b. none f a (omega arith)))
      (cases_eq h (suc n))

  -- so they are those up to the last place
  below_last : (n : ℕ) (next : Option ℕ) → LastBelow entries x (after next) n → units_below entries x n ≡ units_up_to entries next
  below_last n None l = below_less 0 n l.below l.none_after
  below_last n (Some e) l = below_less (suc e) n (omega (arith, l.below)) (λ f a b. l.none_after f (omega arith) b) ∙ ap (λ (y : ℕ). units_below entries y (suc e)) (sym (l.there e refl))

  -- a place below gives its unit
  below_given : (n e : ℕ) → e < n → get_or entries e 0 ≡ x → names (e / 8) (units_below entries x n) ≡ true
  below_given zero e l i = absurd (omega arith)
  below_given (suc n) e l i =
      ⊎_elim
      (λ (s : get_or entries n 0 ≡ x).
      ap (names (e / 8)) (below_here n s) ∙ ⊎_elim
      (λ (k : e ≡ n). subst (λ (f : ℕ). names (e / 8) (f / 8 ∷ units_below entries x n) ≡ true) k (names_first (e / 8) (units_below entries x n)))
      (λ (k : e ≡ n → ⊥). names_rest (e / 8) (n / 8) (units_below entries x n) (below_given n e (omega arith) i))
      (cases_eq e n))
      (λ (s : get_or entries n 0 ≡ x → ⊥).
      ap (names (e / 8)) (below_other n s) ∙ below_given n e (⊎_elim (λ (k : e ≡ n). absurd (s (ap (λ (f : ℕ). get_or entries f 0) (sym k) ∙ i))) (λ (k : e ≡ n → ⊥). omega arith) (cases_eq e n)) i)
      (cases_eq (get_or entries n 0) x)

-- a unit comes first, and then those up to the last place before
pub next_given : (entries : List ℕ) (e : ℕ) (next : Option ℕ) → LastBelow entries (get_or entries e 0) (after next) e → units_up_to entries (Some e) ≡ e / 8 ∷ units_up_to entries next
next_given entries e next l = below_here entries (get_or entries e 0) e refl ∙ ap (λ (us : List ℕ). e / 8 ∷ us) (below_last entries (get_or entries e 0) e next l)

module _ (s : SideLists) (x : ℕ) (known : 1 ≤ x) where
  -- each unit that is given names the material
  given_names : (u n : ℕ) → names u (units_below s.entries x n) ≡ true → names x (list_at s u) ≡ true
  given_names u zero i = absurd (false≢true i)
  given_names u (suc n) i =
      ⊎_elim
      (λ (e : get_or s.entries n 0 ≡ x).
      ⊎_elim
      (λ (k : u ≡ n / 8). subst (λ (v : ℕ). names x (list_at s v) ≡ true) (sym k) (entry_named s n x known e))
      (λ k. given_names u n k)
      (names_either u (n / 8) (units_below s.entries x n) (sym (ap (names u) (below_here s.entries x n e)) ∙ i)))
      (λ (e : get_or s.entries n 0 ≡ x → ⊥). given_names u n (sym (ap (names u) (below_other s.entries x n e)) ∙ i))
      (cases_eq (get_or s.entries n 0) x)

  -- and each unit that names it is given
  names_given : (u : ℕ) → names x (list_at s u) ≡ true → names u (units_below s.entries x 8200) ≡ true
  names_given u i =
      let (j, h, e) = named_place s u x i in
      let few : j < 8 = omega (arith, s.walkable.few u) in
      let unit : (8 * u + j) / 8 ≡ u = omega arith in
      subst (λ (v : ℕ). names v (units_below s.entries x 8200) ≡ true) unit (below_given s.entries x 8200 (8 * u + j) (omega (arith, past_units s u j h)) e)

  -- a walk from the material's last place gives the units that name it
  module _ (next : Option ℕ) (last : LastBelow s.entries x (after next) 8200) where
    same : units_below s.entries x 8200 ≡ units_up_to s.entries next
    same = below_last s.entries x 8200 next last

    pub walk_names : (u : ℕ) → names u (units_up_to s.entries next) ≡ true → names x (list_at s u) ≡ true
    walk_names u i = given_names u 8200 (ap (names u) same ∙ i)

    pub names_walk : (u : ℕ) → names x (list_at s u) ≡ true → names u (units_up_to s.entries next) ≡ true
    names_walk u i = sym (ap (names u) same) ∙ names_given u i

-- each of these units names the material
abbrev pub Naming : SideLists → ℕ → List ℕ → Type 0
Naming s x us = (u : ℕ) → names u us ≡ true → names x (list_at s u) ≡ true

-- each unit that names the material is one of these, or is done
abbrev pub Past : SideLists → ℕ → List ℕ → (ℕ → Type 0) → Type 0
Past s x us Done = (u : ℕ) → names x (list_at s u) ≡ true → (names u us ≡ true) ⊎ Done u

module _ (s : SideLists) (x v : ℕ) (us : List ℕ) where
  pub naming_next : Naming s x (v ∷ us) → Naming s x us
  naming_next a u i = a u (names_rest u v us i)

  pub naming_first : Naming s x (v ∷ us) → names x (list_at s v) ≡ true
  naming_first a = a v (names_first v us)

  -- the unit is done, and what was done still is
  pub past_next : (Done Done' : ℕ → Type 0) → Past s x (v ∷ us) Done → ((u : ℕ) → Done u → Done' u) → Done' v → Past s x us Done'
  past_next Done Done' p still d u i =
      ⊎_elim
      (λ k. ⊎_elim (λ (e : u ≡ v). inr (subst Done' (sym e) d)) (λ j. inl j) (names_either u v us k))
      (λ k. inr (still u k))
      (p u i)

-- at the end every unit that names the material is done
pub past_all : (s : SideLists) (x : ℕ) (Done : ℕ → Type 0) → Past s x [] Done → (u : ℕ) → names x (list_at s u) ≡ true → Done u
past_all s x Done p u i = ⊎_elim (λ k. absurd (false≢true k)) (λ d. d) (p u i)

-- a unit that names a material has its place among 1,025
pub named_known : (s : SideLists) (x u : ℕ) → names x (list_at s u) ≡ true → u < 1025
named_known s x u i = let (j, h, e) = named_place s u x i in past_units s u j h
