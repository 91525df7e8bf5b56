-- Supported sets of units, the largest of them, and what leads from such a set to a wanted material.
use Rattle.std.specs.Prelude.{ℕ, true, ◌⊎◌, Decides}
use Rattle.structure.specs.Problem.{Numbers, Member, Within, Problem, Takes, Makes, MadeIn, Touched}
use Rattle.structure.specs.Structures.{Path}
use Rattle.structure.specs.Structures.Node.{unit}

-- a set of standing units of which none makes a bought material, and every input that is not bought is made in the set
pub record Supported (p : Problem) (s : Numbers) : Type 0 where
  pub stand : Within s p.standing
  pub none_bought : (u x : ℕ) → Member s u → Makes p u x → Member p.bought x → ⊥
  pub fed : (u x : ℕ) → Member s u → Takes p u x → Member p.bought x ⊎ MadeIn p s x

-- the supported set that holds every other
pub record Largest (p : Problem) (g : Numbers) : Type 0 where
  pub supported : Supported p g
  pub all : (s : Numbers) → Supported p s → Within s g

-- every number
abbrev pub any : Numbers
any x = true

-- o is the units of g from which a path through units of g leads to a wanted material
abbrev pub Collected : Problem → Numbers → Numbers → Type 0
Collected p g o = (u : ℕ) → Decides (o u) ((k : ℕ) × Path p any g (unit u) k)

-- m is what the units of o take and make
abbrev pub Spanned : Problem → Numbers → Numbers → Type 0
Spanned p o m = (x : ℕ) → Decides (m x) (Touched p o x)

-- each wanted material is made in g
abbrev pub AllMade : Problem → Numbers → Type 0
AllMade p g = (x : ℕ) → Member p.wanted x → MadeIn p g x

-- no material is both wanted and bought
abbrev pub NoneBoth : Problem → Type 0
NoneBoth p = (x : ℕ) → Member p.wanted x → Member p.bought x → ⊥
