-- What a book tells of its lists and of numbers that it does not have.
use Rattle.std.proofs.Common.{◌≡◌, ℕ, ◌-◌, ◌<◌, ◌≤◌, Bool, true, false, leb, ◌⊎◌, List, [], length, get_or, Some, None, Option, unwrap_or, sym, refl, ap, ◌∙◌, inl, inr, ⊎_elim, arith}
use Rattle.std.proofs.ByRecursion.{All-get_or}
use Rattle.std.proofs.lemmas.Bool.{leb-true, le-leb, lt-leb, and_from, and_left, and_right, and_parts, cond-true, cond-false, cond_both, cases_lt}
use Rattle.book.specs.Meaning.{Fitted, UnitState, free, standing, withheld, Meaning, material_count, unit_count, Listed, StateWithin, WellFormed}
use Rattle.book.specs.Declined.{inside, state_at, is_standing}
use Rattle.book.specs.Asked.{list_on, where_inside, told_of, entry_in, fitted_at, stands_at}
use Rattle.structure.specs.Problem.{list_of}
use Rattle.book.specs.declared.books.Side.{Side}
use Rattle.book.specs.declared.books.Side.TheVariants.{Inputs, Outputs}
use Rattle.drawing.specs.TakingDown.{list_told}

-- what a book has answered, it answers where it has not changed
pub asked_again : {B X : Type 0} (answer : B → X) {a b : B} {r : X} → r ≡ answer a → a ≡ b → r ≡ answer b
asked_again answer told same = told ∙ ap answer same

-- and so a flag that is read from its answer
pub flag_again : {B : Type 0} (answer : B → Option Bool) {a b : B} {r : Option Bool} {x : Bool} → x ≡ unwrap_or r false → r ≡ answer a → a ≡ b → x ≡ unwrap_or (answer b) false
flag_again answer read told same = read ∙ ap (λ o. unwrap_or o false) (asked_again answer told same)

-- a number from 1 to the count is inside
inside_range : (k count : ℕ) → 1 ≤ k → k ≤ count → inside k count ≡ true
inside_range k count l h = and_from (leb 1 k) (leb k count) (le-leb 1 k l) (le-leb k count h)

-- and 0 and what is above the count is outside
outside_range : (k count : ℕ) → (k ≡ 0) ⊎ (count < k) → inside k count ≡ false
outside_range k count o = ⊎_elim (λ (z : k ≡ 0). and_left (leb 1 k) (leb k count) (lt-leb 1 k (omega arith))) (λ (l : count < k). and_right (leb 1 k) (leb k count) (lt-leb k count l)) o

-- every number is one or the other
cases_inside : (k count : ℕ) → ((k ≡ 0) ⊎ (count < k)) ⊎ (inside k count ≡ true)
cases_inside k count =
    ⊎_elim
    (λ (z : k < 1). inl (inl (omega arith)))
    (λ (l : 1 ≤ k). ⊎_elim (λ (g : count < k). inl (inr g)) (λ (h : k ≤ count). inr (inside_range k count l h)) (cases_lt count k))
    (cases_lt k 1)

-- outside no flag is set, and there is no list
pub no_flag : (k count : ℕ) (b : Bool) → (k ≡ 0) ⊎ (count < k) → unwrap_or (where_inside k count b) false ≡ false
no_flag k count b o = ap (λ o. unwrap_or o false) (cond-false (inside k count) (Some b) None (outside_range k count o))

pub no_list : (m : Meaning) (side : Fitted → List ℕ) (u : ℕ) → (u ≡ 0) ⊎ (unit_count m < u) → list_of side (fitted_at u m) ≡ []
no_list m side u o = ap (list_of side) (cond-false (inside u (unit_count m)) (told_of (state_at m u)) None (outside_range u (unit_count m) o))

-- a number that does not stand has no list
idle_state : (s : UnitState) → is_standing s ≡ false → told_of s ≡ None
idle_state free e = refl
idle_state (standing f) e = let z : ◌≡◌ {A = ℕ} 0 1 = cc in absurd (omega arith)
idle_state (withheld f) e = refl

pub idle_list : (m : Meaning) (side : Fitted → List ℕ) (u : ℕ) → unwrap_or (stands_at u m) false ≡ false → list_of side (fitted_at u m) ≡ []
idle_list m side u e =
    ⊎_elim
    (λ (z : (u ≡ 0) ⊎ (unit_count m < u)). no_list m side u z)
    (λ (i : inside u (unit_count m) ≡ true).
    let idle : is_standing (state_at m u) ≡ false = sym (ap (λ o. unwrap_or o false) (cond-true (inside u (unit_count m)) (Some (is_standing (state_at m u))) None i)) ∙ e in
    ap (list_of side) (cond-true (inside u (unit_count m)) (told_of (state_at m u)) None i ∙ idle_state (state_at m u) idle))
    (cases_inside u (unit_count m))

-- the entry at a place of a list, from 1
pub entry_there : (side : Fitted → List ℕ) (place : ℕ) (o : Option Fitted) → 1 ≤ place → place ≤ length (list_of side o) → entry_in side place o ≡ Some (get_or (list_of side o) (place - 1) 0)
entry_there side place None l h = absurd (omega arith)
entry_there side place (Some f) l h = cond-true (inside place (length (side f))) (Some (get_or (side f) (place - 1) 0)) None (inside_range place (length (side f)) l h)

-- a list that is told has at most eight entries, each a material of the book
none_listed : (l : ℕ) → Listed l []
none_listed l = record { few = omega arith; known = tt }

state_listed : (l : ℕ) (d : Side) (s : UnitState) → StateWithin l s → Listed l (list_of (list_on d) (told_of s))
state_listed l d free w = none_listed l
state_listed l Inputs (standing f) w = w.inputs
state_listed l Outputs (standing f) w = w.outputs
state_listed l d (withheld f) w = none_listed l

pub listed : (m : Meaning) → WellFormed m → (d : Side) (u : ℕ) → Listed (material_count m) (list_told d u m)
listed m well d u =
    cond_both (inside u (unit_count m)) (told_of (state_at m u)) None (λ o. Listed (material_count m) (list_of (list_on d) o))
    (λ i.
    let both = and_parts (leb 1 u) (leb u (unit_count m)) i in
    let low = leb-true 1 u both.0 in
    let high = leb-true u (unit_count m) both.1 in
    let here : u - 1 < unit_count m = omega arith in
    state_listed (material_count m) d (state_at m u) (All-get_or (StateWithin (material_count m)) m.units (u - 1) free here well.lists))
    (λ i. none_listed (material_count m))

pub entry_known : (m : Meaning) → WellFormed m → (d : Side) (u k : ℕ) → k < length (list_told d u m) → (1 ≤ get_or (list_told d u m) k 0) × (get_or (list_told d u m) k 0 ≤ 1024)
entry_known m well d u k l =
    let known = All-get_or (λ x. (1 ≤ x) × (x ≤ material_count m)) (list_told d u m) k 0 l (listed m well d u).known in
    (known.0, omega (arith, known.1, well.few_materials))

-- the entry at a place of a book that means the same
pub entry_here : (d : Side) (u k x : ℕ) (m n : Meaning) → x ≡ get_or (list_told d u m) k 0 → m ≡ n → x ≡ get_or (list_told d u n) k 0
entry_here d u k x m n told same = told ∙ ap (λ (w : Meaning). get_or (list_told d u w) k 0) same
