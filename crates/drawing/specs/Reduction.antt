-- The reduction: which units are live, how often each material is made by them, and what waits to be taken up.
use Rattle.std.specs.Prelude.{◌≡◌, ℕ, zero, suc, ◌+◌, ◌<◌, ◌≤◌, Bool, true, cond, ◌⊎◌, List, length, take, Decides, count_by, nat_eq, slice_index, slice_index_or}
use Rattle.book.specs.Layers.{names}
use Rattle.structure.specs.Problem.{Numbers, Problem, Member, Within, Takes, Makes}
use Rattle.structure.specs.Supported.{Supported}
use Rattle.drawing.specs.Flags.{flagged}

-- x is one of these
abbrev pub Among : ℕ → List ℕ → Type 0
Among x xs = names x xs ≡ true

-- how often x is one of these
abbrev pub times : ℕ → List ℕ → ℕ
times x xs = count_by (nat_eq x) xs

abbrev pub zeros : List ℕ → ℕ
zeros xs = count_by (nat_eq 0) xs

-- how many entries in the outputs of the units of o below n name x
abbrev pub arcs_below : Problem → Numbers → ℕ → ℕ → ℕ
arcs_below p o x zero = 0
arcs_below p o x (suc n) = arcs_below p o x n + cond (o n) (times x (p.outputs n)) 0

-- the same of all units of o
abbrev pub arcs : Problem → Numbers → ℕ → ℕ
arcs p o x = arcs_below p o x (p.units + 1)

-- no unit of o takes x
abbrev pub Untaken : Problem → Numbers → ℕ → Type 0
Untaken p o x = (u : ℕ) → Member o u → Takes p u x → ⊥

-- unit u stands and makes nothing that is bought
pub record Eligible (p : Problem) (u : ℕ) : Type 0 where
  pub stands : Member p.standing u
  pub none_bought : (x : ℕ) → Makes p u x → Member p.bought x → ⊥

-- of the units below n those are live that stand and make nothing bought, and what they make is counted
pub record Enlisted (p : Problem) (live : List Bool) (makers : List ℕ) (n : ℕ) : Type 0 where
  pub live_long : length live ≡ 1025
  pub makers_long : length makers ≡ 1025
  pub chosen : (u : ℕ) → Decides (flagged live u) ((u < n) × Eligible p u)
  pub counted : (x : ℕ) → slice_index makers x ≡ arcs_below p (flagged live) x n

-- x is a material that has no maker left and is not bought
pub record Unmade (p : Problem) (makers : List ℕ) (x : ℕ) : Type 0 where
  pub some : 1 ≤ x
  pub known : x ≤ p.materials
  pub none : slice_index_or makers x 0 ≡ 0
  pub unbought : Member p.bought x → ⊥

-- of the materials below n those wait that are neither bought nor made
pub record Seeded (p : Problem) (makers waiting : List ℕ) (n : ℕ) : Type 0 where
  pub unmade : (x : ℕ) → Among x waiting → Unmade p makers x
  pub all : (x : ℕ) → x < n → Unmade p makers x → Among x waiting
  pub room : length waiting ≤ zeros (take n makers)

-- between two steps: what waits is unmade; whatever else is unmade is taken by no live unit; every supported set is live
pub record Reducing (p : Problem) (live : List Bool) (makers waiting : List ℕ) : Type 0 where
  pub live_long : length live ≡ 1025
  pub makers_long : length makers ≡ 1025
  pub counted : (x : ℕ) → slice_index makers x ≡ arcs p (flagged live) x
  pub eligible : (u : ℕ) → Member (flagged live) u → Eligible p u
  pub unmade : (x : ℕ) → Among x waiting → Unmade p makers x
  pub room : length waiting ≤ zeros makers
  pub settled : (x : ℕ) → Unmade p makers x → Among x waiting ⊎ Untaken p (flagged live) x
  pub inside : (s : Numbers) → Supported p s → Within s (flagged live)

-- entries were taken out of the counts, and each material of which the last one went waits behind the others
pub record Released (entries makers waiting makers' waiting' : List ℕ) : Type 0 where
  pub counts : (x : ℕ) → slice_index makers' x + times x entries ≡ slice_index makers x
  pub long : length makers' ≡ length makers
  pub grown : length waiting' + zeros makers ≤ length waiting + zeros makers'
  pub kept : (x : ℕ) → Among x waiting → Among x waiting'
  pub added : (x : ℕ) → Among x waiting' → Among x waiting ⊎ ((slice_index makers' x ≡ 0) × Among x entries)
  pub all : (x : ℕ) → slice_index makers' x ≡ 0 → (slice_index makers x ≡ 0) ⊎ Among x waiting'
