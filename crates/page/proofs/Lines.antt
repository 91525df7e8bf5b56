-- Each kind of line: its length, what it is where its fields are right, and that its fields are right. Assumes nothing.
use Rattle.std.proofs.Common.{◌≡◌, ℕ, zero, suc, ◌+◌, ◌<◌, ◌≤◌, Bool, true, false, cond, eqb, List, [], ◌∷◌, ◌++◌, length, get_or, take, drop, sym, refl, ap, ◌∙◌, subst, arith}
use Rattle.std.specs.List.{AllByRecursion}
use Rattle.std.proofs.ByRecursion.{All-weaker}
use Rattle.std.proofs.lemmas.List.{length-append, length-take-le, length-drop, take_all, drop-drop, take_at, drop_at}
use Rattle.book.specs.Meaning.{Material, UnitState, free, standing, withheld, Listed, StateWithin}
use Rattle.columns.specs.Columns.{column}
use Rattle.columns.proofs.Laws.{fits_five, length_column, shows_column}
use Rattle.page.specs.Layout.{number_width, list_width, most, counts, material, unit}
use Rattle.page.specs.Format.{newline, class_letter, state_letter, inputs_of, outputs_of, list_bytes, counts_line, material_line, unit_line}
use Rattle.page.specs.Rules.{Field, letter, Right, letter_field, number_field, newline_field, entry_fields, inputs_in, outputs_in, fields}
use Rattle.page.specs.Faults.{AllRight}
use Rattle.page.specs.Checked.{Settled}
use Rattle.page.proofs.Scan.{all_none, all_more, all_first, all_rest}
use Rattle.page.proofs.Joins.{field_then, fields_then, fields_first, fields_rest, halves}
use Rattle.page.proofs.Lists.{column_from_shows, ListIn, length_list_bytes, list_from_right, right_from_list}

-- a number up to `most` takes five columns
length_number : (k : ℕ) → k ≤ most → length (column number_width k) ≡ number_width
length_number k h = length_column number_width k (fits_five k (omega arith))

-- the first line has 11 bytes
pub length_counts_line : (l n : ℕ) → l ≤ 512 → n ≤ 512 → length (counts_line l n) ≡ 11
length_counts_line l n hl hn = simp length-append (omega (arith, length_number l hl, length_number n hn))

-- a material's line has 7
pub length_material_line : (k : ℕ) (m : Material) → k ≤ 512 → length (material_line k m) ≡ 7
length_material_line k m hk = simp length-append (omega (arith, length_number k hk))

-- the lists of a number, free or not, are lists that a unit may have
lists_within : (l : ℕ) (s : UnitState) → StateWithin l s → Listed l (inputs_of s) × Listed l (outputs_of s)
lists_within l free w = (record { few = omega arith; known = tt }, record { few = omega arith; known = tt })
lists_within l (standing f) w = (w.inputs, w.outputs)
lists_within l (withheld f) w = (w.inputs, w.outputs)

-- such a list takes forty columns
length_known_list : (l : ℕ) (xs : List ℕ) → l ≤ most → Listed l xs → length (list_bytes xs) ≡ 40
length_known_list l xs hl h = length_list_bytes xs h.few (All-weaker (λ x. (1 ≤ x) × (x ≤ l)) (λ x. x < 100000) (λ x b. omega (arith, b.1)) xs h.known)

-- a unit's line, from its letter, its number and the bytes of its lists
abbrev unit_of : ℕ → ℕ → List ℕ → List ℕ → List ℕ
unit_of x k a b = x ∷ (column number_width k ++ (a ++ (b ++ newline ∷ [])))

-- it has 87 bytes where its lists are as wide as they should be
length_unit_of : (x k : ℕ) (a b : List ℕ) → k ≤ most → length a ≡ list_width → length b ≡ list_width → length (unit_of x k a b) ≡ 87
length_unit_of x k a b hk ha hb = simp length-append (omega (arith, length_number k hk))

-- a unit's line has 87 bytes
pub length_unit_line : (l k : ℕ) (s : UnitState) → l ≤ 512 → k ≤ 512 → StateWithin l s → length (unit_line k s) ≡ 87
length_unit_line l k s hl hk w =
    let within = lists_within l s w in
    length_unit_of (state_letter s) k (list_bytes (inputs_of s)) (list_bytes (outputs_of s)) hk (length_known_list l (inputs_of s) hl within.0) (length_known_list l (outputs_of s) hl within.1)

-- bytes that begin with a number from `low` to `high` in five columns
record NumberFirst (low high : ℕ) (t : List ℕ) : Type 0 where
  value : ℕ
  least : low ≤ value
  greatest : value ≤ high
  written : t ≡ column number_width value ++ drop number_width t

-- so do those whose first field is such a number's and right
number_first : (low high : ℕ) (fs : List Field) (t : List ℕ) → number_width ≤ length t → AllRight (number_field low high ∷ fs) t → NumberFirst low high t
number_first low high fs t long all =
    let r = all_first (number_field low high) fs t all in
    record {
      value = r.0;
      least = r.2;
      greatest = r.3;
      written = halves number_width t (column number_width r.0) (drop number_width t) (column_from_shows (take number_width t) r.0 (length-take-le number_width t long) r.1) refl;
    }

-- and those whose first field is right for the number k alone begin with k
this_number_first : (k : ℕ) (fs : List Field) (t : List ℕ) → number_width ≤ length t → AllRight (number_field k k ∷ fs) t → t ≡ column number_width k ++ drop number_width t
this_number_first k fs t long all =
    let r = number_first k k fs t long all in
    let e : r.value ≡ k = omega (arith, r.least, r.greatest) in
    r.written ∙ ap (λ n. column number_width n ++ drop number_width t) e

-- a number within its bounds is right in five columns, before right fields
number_then : (low high n : ℕ) (fs : List Field) (rest : List ℕ) → n ≤ most → low ≤ n → n ≤ high → AllRight fs rest → AllRight (number_field low high ∷ fs) (column number_width n ++ rest)
number_then low high n fs rest small a b others =
    let fits = fits_five n (omega arith) in
    field_then (number_field low high) fs (column number_width n) rest (length_column number_width n fits) (n, shows_column number_width n fits, a, b) others

-- a newline is a right end of a line
newline_last : AllRight (newline_field ∷ []) (newline ∷ [])
newline_last = all_more newline_field [] (newline ∷ []) (0, omega arith, refl) (all_none [])

-- and there is no other
newline_from_last : (t : List ℕ) → length t ≡ 1 → AllRight (newline_field ∷ []) t → t ≡ newline ∷ []
newline_from_last t one all = by (all_first newline_field [] t all) where
  by : Right newline_field.rule (take 1 t) → t ≡ newline ∷ []
  by (zero, h, e) = sym (take_all 1 t (omega arith)) ∙ e
  by (suc i, h, e) = absurd (omega arith)

-- the counts that the first line shows
pub record CountsIn (t : List ℕ) : Type 0 where
  pub materials : ℕ
  pub units : ℕ
  pub some_material : 1 ≤ materials
  pub few_materials : materials ≤ 512
  pub some_unit : 1 ≤ units
  pub few_units : units ≤ 512
  pub written : t ≡ counts_line materials units

-- a first line whose fields are right is that of some counts within bounds
pub counts_from_right : (l : ℕ) (t : List ℕ) → length t ≡ 11 → AllRight (fields l counts t) t → CountsIn t
counts_from_right l t wide all =
    let n = number_field 1 most in
    let u = drop number_width t in
    let lu : length u ≡ 6 = omega (arith, length-drop number_width t) in
    let lv : length (drop number_width u) ≡ 1 = omega (arith, length-drop number_width u) in
    let all-u = all_rest n (n ∷ (newline_field ∷ [])) t all in
    let a = number_first 1 most (n ∷ (newline_field ∷ [])) t (omega arith) all in
    let b = number_first 1 most (newline_field ∷ []) u (omega arith) all-u in
    let e = newline_from_last (drop number_width u) lv (all_rest n (newline_field ∷ []) u all-u) in
    record {
      materials = a.value;
      units = b.value;
      some_material = a.least;
      few_materials = a.greatest;
      some_unit = b.least;
      few_units = b.greatest;
      written = a.written ∙ ap (λ (r : List ℕ). column number_width a.value ++ r) (b.written ∙ ap (λ (r : List ℕ). column number_width b.value ++ r) e);
    }

-- and the first line of counts within bounds has right fields
pub counts_right : (l a b : ℕ) → 1 ≤ a → a ≤ 512 → 1 ≤ b → b ≤ 512 → AllRight (fields l counts (counts_line a b)) (counts_line a b)
counts_right l a b some-a few-a some-b few-b =
    let n = number_field 1 most in
    number_then 1 most a (n ∷ (newline_field ∷ [])) (column number_width b ++ newline ∷ []) few-a some-a few-a
    (number_then 1 most b (newline_field ∷ []) (newline ∷ []) few-b some-b few-b newline_last)

-- the letters that a material may have
abbrev classes : List ℕ
classes = 45 ∷ (80 ∷ (82 ∷ (66 ∷ [])))

-- the letters that a number may have on a page that is to be read
abbrev states : List ℕ
states = 45 ∷ (83 ∷ [])

-- each letter of a material is that of some class
class_of : (i : ℕ) → i < length classes → (m : Material) × (get_or classes i 0 ≡ class_letter m.wanted m.bought)
class_of zero h = (record { wanted = false; bought = false }, refl)
class_of (suc zero) h = (record { wanted = true; bought = false }, refl)
class_of (suc (suc zero)) h = (record { wanted = false; bought = true }, refl)
class_of (suc (suc (suc zero))) h = (record { wanted = true; bought = true }, refl)
class_of (suc (suc (suc (suc i)))) h = absurd (omega arith)

-- and the letter of each class is one of a material's
class_right : (m : Material) → Right (letter classes) (class_letter m.wanted m.bought ∷ [])
class_right m = by m.wanted m.bought where
  by : (w b : Bool) → Right (letter classes) (class_letter w b ∷ [])
  by false false = (0, omega arith, refl)
  by true false = (1, omega arith, refl)
  by false true = (2, omega arith, refl)
  by true true = (3, omega arith, refl)

-- a line whose fields are right for material k is the line of material k, of some class
pub material_from_right : (l k : ℕ) (t : List ℕ) → length t ≡ 7 → AllRight (fields l (material k) t) t → (m : Material) × (t ≡ material_line k m)
material_from_right l k [] wide all = absurd (omega arith)
material_from_right l k (x ∷ t) wide all =
    let fs = number_field k k ∷ (newline_field ∷ []) in
    let r = all_first (letter_field classes) fs (x ∷ t) all in
    let c = class_of r.0 r.1 in
    let rest = all_rest (letter_field classes) fs (x ∷ t) all in
    let n = this_number_first k (newline_field ∷ []) t (omega arith) rest in
    let lu : length (drop number_width t) ≡ 1 = omega (arith, length-drop number_width t) in
    let e = newline_from_last (drop number_width t) lu (all_rest (number_field k k) (newline_field ∷ []) t rest) in
    let first : x ≡ get_or classes r.0 0 = cc r.2 in
    (c.0, (let a = c.1 in cc))

-- and the line of material k has right fields
pub material_right : (l k : ℕ) (m : Material) → k ≤ 512 → AllRight (fields l (material k) (material_line k m)) (material_line k m)
material_right l k m hk =
    field_then (letter_field classes) (number_field k k ∷ (newline_field ∷ [])) (class_letter m.wanted m.bought ∷ []) (column number_width k ++ newline ∷ []) refl (class_right m)
    (number_then k k k (newline_field ∷ []) (newline ∷ []) hk (omega arith) (omega arith) newline_last)

-- what a number's letter and the bytes of its lists say of it
record StateIn (l x : ℕ) (a b : List ℕ) : Type 0 where
  state : UnitState
  within : StateWithin l state
  settled : Settled state
  lettered : x ≡ state_letter state
  inputs : a ≡ list_bytes (inputs_of state)
  outputs : b ≡ list_bytes (outputs_of state)

-- where no material may be named, the list is empty
list_of_none : (last : ℕ) (a : List ℕ) → ListIn 0 last 8 a → a ≡ list_bytes []
list_of_none last a r = by r.numbers r.known r.written where
  by : (xs : List ℕ) → AllByRecursion (λ x. (1 ≤ x) × (x ≤ 0)) xs → a ≡ list_bytes xs → a ≡ list_bytes []
  by [] known written = written
  by (x ∷ xs) known written = absurd (omega (arith, known.0.0, known.0.1))

-- the letter says which materials the lists may name, and with them which state it is
state_in : (l i : ℕ) (a b : List ℕ) → i < length states → ListIn (cond (eqb (get_or states i 0) 45) 0 l) 0 8 a → ListIn (cond (eqb (get_or states i 0) 45) 0 l) 0 8 b → StateIn l (get_or states i 0) a b
state_in l zero a b h ra rb = record {
  state = free;
  within = tt;
  settled = tt;
  lettered = refl;
  inputs = list_of_none 0 a ra;
  outputs = list_of_none 0 b rb;
}
state_in l (suc zero) a b h ra rb = record {
  state = standing (record { inputs = ra.numbers; outputs = rb.numbers });
  within = record { inputs = record { few = ra.few; known = ra.known }; outputs = record { few = rb.few; known = rb.known } };
  settled = (ra.rising, rb.rising);
  lettered = refl;
  inputs = ra.written;
  outputs = rb.written;
}
state_in l (suc (suc i)) a b h ra rb = absurd (omega arith)

-- the fields of a unit's line behind its number: two lists and the newline
abbrev lists_fields : ℕ → List ℕ → List ℕ → List Field
lists_fields highest a b = entry_fields highest a ++ (entry_fields highest b ++ newline_field ∷ [])

-- bytes that are two lists and a newline
record ListsIn (highest : ℕ) (u : List ℕ) : Type 0 where
  first : ListIn highest 0 8 (take list_width u)
  second : ListIn highest 0 8 (take list_width (drop list_width u))
  written : u ≡ take list_width u ++ (take list_width (drop list_width u) ++ newline ∷ [])

-- so are those whose fields are right, the fields being told by those bytes
lists_from_right : (highest : ℕ) (u : List ℕ) → length u ≡ 81 → AllRight (lists_fields highest (take list_width u) (take list_width (drop list_width u))) u → ListsIn highest u
lists_from_right highest u wide all =
    let v = drop list_width u in
    let a = take list_width u in
    let b = take list_width v in
    let last = newline_field ∷ [] in
    let wide_v : length v ≡ 41 = omega (arith, length-drop list_width u) in
    let wide_last : length (drop list_width v) ≡ 1 = omega (arith, length-drop list_width v) in
    let all-v = fields_rest (entry_fields highest a) (entry_fields highest b ++ last) u all in
    let end = newline_from_last (drop list_width v) wide_last (fields_rest (entry_fields highest b) last v all-v) in
    record {
      first = list_from_right highest a (length-take-le list_width u (omega arith)) (fields_first (entry_fields highest a) (entry_fields highest b ++ last) u all);
      second = list_from_right highest b (length-take-le list_width v (omega arith)) (fields_first (entry_fields highest b) last v all-v);
      written = halves list_width u a (b ++ newline ∷ []) refl (halves list_width v b (newline ∷ []) refl end);
    }

-- two lists that are right by themselves are right in front of a newline
lists_right : (highest : ℕ) (a b : List ℕ) → length a ≡ list_width → length b ≡ list_width → AllRight (entry_fields highest a) a → AllRight (entry_fields highest b) b → AllRight (lists_fields highest a b) (a ++ (b ++ newline ∷ []))
lists_right highest a b wide-a wide-b right-a right-b =
    fields_then (entry_fields highest a) (entry_fields highest b ++ newline_field ∷ []) a (b ++ newline ∷ []) wide-a right-a
    (fields_then (entry_fields highest b) (newline_field ∷ []) b (newline ∷ []) wide-b right-b newline_last)

-- the state that the line of unit k shows
pub record UnitIn (l k : ℕ) (t : List ℕ) : Type 0 where
  pub state : UnitState
  pub within : StateWithin l state
  pub settled : Settled state
  pub written : t ≡ unit_line k state

-- a line whose fields are right for unit k is the line of unit k, in some state that may stand on a page that is to be read
pub unit_from_right : (l k : ℕ) (t : List ℕ) → length t ≡ 87 → AllRight (fields l (unit k) t) t → UnitIn l k t
unit_from_right l k [] wide all = absurd (omega arith)
unit_from_right l k (x ∷ t) wide all =
    let highest : ℕ → ℕ = λ y. cond (eqb y 45) 0 l in
    let u = drop number_width t in
    let a = take list_width u in
    let b = take list_width (drop list_width u) in
    let lists = lists_fields (highest x) a b in
    let there : outputs_in (x ∷ t) ≡ b = ap (take list_width) (sym (drop-drop list_width number_width t)) in
    let all-x = subst (λ (p : List ℕ). AllRight (letter_field states ∷ (number_field k k ∷ lists_fields (highest x) a p)) (x ∷ t)) there all in
    let all-t = all_rest (letter_field states) (number_field k k ∷ lists) (x ∷ t) all-x in
    let r = all_first (letter_field states) (number_field k k ∷ lists) (x ∷ t) all-x in
    let numbered = this_number_first k lists t (omega arith) all-t in
    let wide_u : length u ≡ 81 = omega (arith, length-drop number_width t) in
    let both = lists_from_right (highest x) u wide_u (all_rest (number_field k k) lists t all-t) in
    let lettered : x ≡ get_or states r.0 0 = cc r.2 in
    let s = state_in l r.0 a b r.1 (subst (λ y. ListIn (highest y) 0 8 a) lettered both.first) (subst (λ y. ListIn (highest y) 0 8 b) lettered both.second) in
    record {
      state = s.state;
      within = s.within;
      settled = s.settled;
      written = cc (both.written, s.lettered, s.inputs, s.outputs);
    }

-- a unit's line from its parts has right fields where each part is right
unit_of_right : (highest x k : ℕ) (a b : List ℕ) → k ≤ most → Right (letter states) (x ∷ []) → length a ≡ list_width → length b ≡ list_width → AllRight (entry_fields highest a) a → AllRight (entry_fields highest b) b → AllRight (letter_field states ∷ (number_field k k ∷ lists_fields highest (inputs_in (unit_of x k a b)) (outputs_in (unit_of x k a b)))) (unit_of x k a b)
unit_of_right highest x k a b few lettered wide-a wide-b right-a right-b =
    let n = column number_width k in
    let u = a ++ (b ++ newline ∷ []) in
    let line = unit_of x k a b in
    let behind : drop number_width (n ++ u) ≡ u = drop_at n u number_width (length_number k few) in
    let ins : inputs_in line ≡ a = ap (take list_width) behind ∙ take_at a (b ++ newline ∷ []) list_width wide-a in
    let behind_a : drop (number_width + list_width) (n ++ u) ≡ b ++ newline ∷ [] = sym (drop-drop list_width number_width (n ++ u)) ∙ (ap (drop list_width) behind ∙ drop_at a (b ++ newline ∷ []) list_width wide-a) in
    let outs : outputs_in line ≡ b = ap (take list_width) behind_a ∙ take_at b (newline ∷ []) list_width wide-b in
    let lists = lists_right highest a b wide-a wide-b right-a right-b in
    let numbered = number_then k k k (lists_fields highest a b) u few (omega arith) (omega arith) lists in
    let whole = field_then (letter_field states) (number_field k k ∷ lists_fields highest a b) (x ∷ []) (n ++ u) refl lettered numbered in
    let same : lists_fields highest (inputs_in line) (outputs_in line) ≡ lists_fields highest a b = ap (λ (p : List ℕ). lists_fields highest p (outputs_in line)) ins ∙ ap (lists_fields highest a) outs in
    subst (λ (fs : List Field). AllRight (letter_field states ∷ (number_field k k ∷ fs)) line) (sym same) whole

-- and the line of unit k in such a state has right fields
pub unit_right : (l k : ℕ) (s : UnitState) → l ≤ 512 → k ≤ 512 → StateWithin l s → Settled s → AllRight (fields l (unit k) (unit_line k s)) (unit_line k s)
unit_right l k free hl hk w settled =
    let none = right_from_list 0 [] (omega arith) (omega arith) tt tt in
    unit_of_right 0 45 k (list_bytes []) (list_bytes []) hk (0, omega arith, refl) refl refl none none
unit_right l k (standing f) hl hk w settled =
    unit_of_right l 83 k (list_bytes f.inputs) (list_bytes f.outputs) hk (1, omega arith, refl)
    (length_known_list l f.inputs hl w.inputs)
    (length_known_list l f.outputs hl w.outputs)
    (right_from_list l f.inputs (omega arith) w.inputs.few w.inputs.known settled.0)
    (right_from_list l f.outputs (omega arith) w.outputs.few w.outputs.known settled.1)
unit_right l k (withheld f) hl hk w settled = absurd settled
