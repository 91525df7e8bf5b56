-- Solution-structures, the maximal structure, and the rank of a unit.
use Rattle.std.specs.Prelude.{ℕ, suc, ◌≤◌, ◌↔◌, Decides}
use Rattle.structure.specs.Problem.{Numbers, Member, Within, Problem, Takes, Makes, MadeIn, Touched}

-- what a path goes through: materials and units
pub data Node : Type 0 where
  material : ℕ → Node
  unit : ℕ → Node

-- a path of arcs in (m, o) from a node to a wanted material, with the number of units on it: an arc leads from a material
-- to a unit that takes it, and from a unit to a material that it makes
pub data Path (p : Problem) (m o : Numbers) : Node → ℕ → Type 0 where
  arrived : {x : ℕ} → Member m x → Member p.wanted x → Path p m o (material x) 0
  taken : {x u k : ℕ} → Member m x → Member o u → Takes p u x → Path p m o (unit u) k → Path p m o (material x) k
  made : {u x k : ℕ} → Member o u → Member m x → Makes p u x → Path p m o (material x) k → Path p m o (unit u) (suc k)

-- a workable plant: materials m and units o
pub record SolutionStructure (p : Problem) (m o : Numbers) : Type 0 where
  -- all inputs and outputs of the units lie in m
  pub lists_inside : (x : ℕ) → Touched p o x → Member m x
  -- each wanted material is there
  pub wanted_inside : Within p.wanted m
  -- a material that is there is an output of no unit there exactly if it is bought
  pub unmade_exactly_bought : (x : ℕ) → Member m x → (MadeIn p o x → ⊥) ↔ Member p.bought x
  -- the units stand
  pub units_stand : Within o p.standing
  -- from each unit a path leads to a wanted material
  pub leads_to_wanted : (u : ℕ) → Member o u → (k : ℕ) × Path p m o (unit u) k
  -- each material is an input or an output of some unit there
  pub materials_used : (x : ℕ) → Member m x → Touched p o x

-- the standing units hold a solution-structure
abbrev pub HasSolution : Problem → Type 0
HasSolution p = (m : Numbers) × (o : Numbers) × SolutionStructure p m o

-- some solution-structure has the unit u; some has the material x
abbrev pub UnitInSome : Problem → ℕ → Type 0
UnitInSome p u = (m : Numbers) × (o : Numbers) × SolutionStructure p m o × Member o u

abbrev pub MaterialInSome : Problem → ℕ → Type 0
MaterialInSome p x = (m : Numbers) × (o : Numbers) × SolutionStructure p m o × Member m x

-- the maximal structure: the union of all solution-structures
pub record UnionOfAll (p : Problem) (m o : Numbers) : Type 0 where
  pub materials : (x : ℕ) → Decides (m x) (MaterialInSome p x)
  pub units : (u : ℕ) → Decides (o u) (UnitInSome p u)

-- a solution-structure in which every other lies
pub record HoldsEvery (p : Problem) (m o : Numbers) : Type 0 where
  pub solution : SolutionStructure p m o
  pub materials_inside : (m' o' : Numbers) → SolutionStructure p m' o' → Within m' m
  pub units_inside : (m' o' : Numbers) → SolutionStructure p m' o' → Within o' o

-- k is the least number of units, u itself counted, on a path in (m, o) from u to a wanted material
pub record Rank (p : Problem) (m o : Numbers) (u k : ℕ) : Type 0 where
  pub reached : Path p m o (unit u) k
  pub least : (j : ℕ) → Path p m o (unit u) j → k ≤ j
