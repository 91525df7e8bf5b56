-- How the lists of one side stand in arrays, and how each entry is linked to the last before it that is the same material.
use Rattle.std.specs.Prelude.{◌≡◌, ℕ, ◌+◌, ◌*◌, ◌<◌, ◌≤◌, ◌≢◌, cond, List, [], ◌∷◌, ◌++◌, length, take, drop, Some, None, Option, ◌==◌, slice_index}

-- unit u's list: its entries stand from place 8 u on
abbrev pub listed : (counts entries : List ℕ) → ℕ → List ℕ
listed counts entries u = take (slice_index counts u) (drop (8 * u) entries)

-- one more than a place, or 0 where there is none
abbrev pub after : Option ℕ → ℕ
after None = 0
after (Some e) = e + 1

-- h is one more than the last place below n at which the material x stands, or 0 where it stands at none
pub record LastBelow (entries : List ℕ) (x h n : ℕ) : Type 0 where
  pub below : h ≤ n
  pub there : (e : ℕ) → h ≡ e + 1 → slice_index entries e ≡ x
  pub none_after : (e : ℕ) → h ≤ e → e < n → slice_index entries e ≢ x

-- the entries below n are linked: each to the last before it that has the same material, and each material to its last
pub record Linked (entries links heads : List ℕ) (n : ℕ) : Type 0 where
  pub linked : (e : ℕ) → e < n → 1 ≤ slice_index entries e → LastBelow entries (slice_index entries e) (slice_index links e) e
  pub headed : (x : ℕ) → 1 ≤ x → LastBelow entries x (slice_index heads x) n

-- these can be walked by unit and by material: lists of at most eight materials, other places 0, all linked
pub record Walkable (counts entries links heads : List ℕ) : Type 0 where
  pub counts_long : length counts ≡ 1025
  pub entries_long : length entries ≡ 8200
  pub links_long : length links ≡ 8200
  pub heads_long : length heads ≡ 1025
  pub few : (u : ℕ) → slice_index counts u ≤ 8
  pub listed : (u j : ℕ) → j < slice_index counts u → 1 ≤ slice_index entries (8 * u + j)
  pub unlisted : (u j : ℕ) → slice_index counts u ≤ j → j < 8 → slice_index entries (8 * u + j) ≡ 0
  pub known : (e : ℕ) → slice_index entries e ≤ 1024
  pub chained : Linked entries links heads 8200

-- each of these has a place among 1,025
abbrev pub Placed : List ℕ → Type 0
Placed xs = (k : ℕ) → slice_index xs k ≤ 1024

-- the lists with x put at the end of unit u's
abbrev pub with_entry : (ℕ → List ℕ) → ℕ → ℕ → (ℕ → List ℕ)
with_entry lists u x v = cond (v == u) (lists v ++ (x ∷ [])) (lists v)

-- the lists with xs in the place of unit u's
abbrev pub with_list : (ℕ → List ℕ) → ℕ → List ℕ → (ℕ → List ℕ)
with_list lists u xs v = cond (v == u) xs (lists v)
