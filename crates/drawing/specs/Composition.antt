-- How units get their ranks: breadth first, from the wanted materials to the units that make them, and on to what those
-- units take.
use Rattle.std.specs.Prelude.{◌≡◌, ℕ, suc, ◌+◌, ◌-◌, ◌<◌, ◌≤◌, Bool, ◌⊎◌, List, [], ◌∷◌, ◌++◌, length, count_by, slice_index}
use Rattle.structure.specs.Problem.{Numbers, Member, Within, Problem, Takes, Makes}
use Rattle.structure.specs.Structures.{Path, Rank}
use Rattle.structure.specs.Structures.Node.{material, unit}
use Rattle.structure.specs.Supported.{any}
use Rattle.drawing.specs.declared.composition.Need.{Need}
use Rattle.drawing.specs.Flags.{flagged}

-- each rank is the least number of units on a path through units of g to a wanted material, and 0 says that there is no
-- path
pub record Composed (p : Problem) (g : Numbers) (ranks : List ℕ) : Type 0 where
  pub long : length ranks ≡ 1025
  pub ranked : (u k : ℕ) → slice_index ranks u ≡ suc k → Rank p any g u (suc k)
  pub unranked : (u k : ℕ) → slice_index ranks u ≡ 0 → Path p any g (unit u) k → ⊥

-- the need n is one of q
abbrev pub Among : Need → List Need → Type 0
Among n [] = ⊥
Among n (m ∷ q) = (n ≡ m) ⊎ Among n q

-- a need of q is for the material x
abbrev pub Awaited : List Need → ℕ → Type 0
Awaited q x = (n : Need) × Among n q × (n.material ≡ x)

-- how many materials were asked for
abbrev pub asked_for : List Bool → ℕ
asked_for asked = count_by (λ b. b) asked

-- the needs of q all have the rank r
abbrev pub Level : ℕ → List Need → Type 0
Level r [] = Unit {0}
Level r (n ∷ q) = (n.rank ≡ r) × Level r q

-- the needs of q have the rank r, and from some place on r + 1
abbrev pub Levels : ℕ → List Need → Type 0
Levels r [] = Unit {0}
Levels r (n ∷ q) = ((n.rank ≡ r) × Levels r q) ⊎ Level (r + 1) (n ∷ q)

-- the materials sought were asked for: those that had not been wait now behind q, each with the rank r
pub record Asked (Sought : ℕ → Type 0) (r : ℕ) (asked : List Bool) (q : List Need) (asked' : List Bool) (q' : List Need) : Type 0 where
  pub added : List Need
  pub behind : q' ≡ q ++ added
  pub of_rank : Level r added
  pub new : (n : Need) → Among n added → Sought n.material × (Member (flagged asked) n.material → ⊥)
  pub kept : Within (flagged asked) (flagged asked')
  pub covered : (x : ℕ) → Sought x → Member (flagged asked') x
  pub told : (x : ℕ) → Member (flagged asked') x → Member (flagged asked) x ⊎ Awaited added x
  pub counted : asked_for asked' ≡ asked_for asked + length added

-- the unit u has a rank
abbrev pub Ranked : List ℕ → ℕ → Type 0
Ranked ranks u = slice_index ranks u ≡ 0 → ⊥

module _ (p : Problem) (g : Numbers) where
  -- the units of g that make x all have ranks
  abbrev pub MakersRanked : List ℕ → ℕ → Type 0
  MakersRanked ranks x = (u : ℕ) → Member g u → Makes p u x → Ranked ranks u

  -- the rank of a need is one more than the least number of units on a path from its material
  pub record Due (n : Need) : Type 0 where
    pub from_one : 1 ≤ n.rank
    pub reached : Path p any g (material n.material) (n.rank - 1)
    pub least : (k : ℕ) → Path p any g (material n.material) k → n.rank ≤ suc k

  -- the state between two steps, where the needs of q, of the rank r and then r + 1, have yet to be met
  pub record Spreading (asked : List Bool) (ranks : List ℕ) (q : List Need) (r : ℕ) : Type 0 where
    pub from_one : 1 ≤ r
    pub due : (n : Need) → Among n q → Due n
    pub in_order : Levels r q
    -- each material nearer than r was asked for
    pub nearer : (x k : ℕ) → k < r → Path p any g (material x) k → Member (flagged asked) x
    -- what was asked for waits, or its makers have ranks
    pub followed : (x : ℕ) → Member (flagged asked) x → Awaited q x ⊎ MakersRanked ranks x
    -- what a unit with a rank takes was asked for
    pub inputs_asked : (u x : ℕ) → Ranked ranks u → Takes p u x → Member (flagged asked) x
    pub ranked : (u k : ℕ) → slice_index ranks u ≡ suc k → Rank p any g u (suc k)
