-- What is proved of solution-structures.
use Rattle.std.specs.Prelude.{◌≡◌, ℕ, Result}
use Rattle.book.specs.declared.Refusal.{Refusal}
use Rattle.book.specs.Meaning.{Meaning, WellFormed}
use Rattle.structure.specs.Problem.{Numbers, Member, Within, Problem, MadeIn, Bounded, problem}
use Rattle.structure.specs.Structures.{SolutionStructure, HasSolution, UnionOfAll, HoldsEvery, Rank}
use Rattle.structure.specs.Supported.{Supported, Largest, any, Collected, Spanned, AllMade, NoneBoth}
use Rattle.structure.specs.Answers.{Drawing, Draws, ImpossibleExactly, DrawnHoldsEvery, DrawnExactlyInSome}

-- the union of all solution-structures, where there is one, is itself a solution-structure and holds every other; what
-- holds every other is that union, and there is but one
pub record UnionIsLargest : Type 0 where
  pub is_solution : (p : Problem) (m o : Numbers) → HasSolution p → UnionOfAll p m o → HoldsEvery p m o
  pub is_union : (p : Problem) (m o : Numbers) → HoldsEvery p m o → UnionOfAll p m o
  pub unique : (p : Problem) (m o m' o' : Numbers) → UnionOfAll p m o → UnionOfAll p m' o' → (m' ≡ m) × (o' ≡ o)

-- what is collected from any supported set in which each wanted material is made is a solution-structure, and a rank among
-- the units of the set is a rank inside it; every unit that was collected has one
pub record CollectedSolves : Type 0 where
  pub solution : (p : Problem) (g o m : Numbers) → Supported p g → AllMade p g → Collected p g o → Spanned p o m → SolutionStructure p m o
  pub ranks : (p : Problem) (g o m : Numbers) → AllMade p g → Collected p g o → Spanned p o m → (u k : ℕ) → Rank p any g u k → Rank p m o u k
  pub ranked : (p : Problem) → Bounded p → (g o m : Numbers) → Supported p g → AllMade p g → Collected p g o → Spanned p o m → (u : ℕ) → Member o u → (k : ℕ) × Rank p m o u k

-- what is collected from the largest supported set is the maximal structure; where a wanted material is not made in that
-- set there is no solution-structure
pub record LargestIsMaximal : Type 0 where
  pub solutions_inside : (p : Problem) → Bounded p → (g m o : Numbers) → Largest p g → SolutionStructure p m o → Within o g
  pub maximal : (p : Problem) → Bounded p → (g o m : Numbers) → Largest p g → AllMade p g → Collected p g o → Spanned p o m → HoldsEvery p m o
  pub none : (p : Problem) → Bounded p → NoneBoth p → (g : Numbers) → Largest p g → (x : ℕ) → Member p.wanted x → (MadeIn p g x → ⊥) → HasSolution p → ⊥
  pub bounded : (m : Meaning) → WellFormed m → Bounded (problem m)
  -- where there is a solution-structure there is a union of all
  pub exists : (p : Problem) → Bounded p → NoneBoth p → HasSolution p → (m : Numbers) × (o : Numbers) × UnionOfAll p m o

-- every book has an answer of a draw, and but one; it says of the maximal structure what the names of the promises say
pub record AnswerIsSettled : Type 0 where
  pub has_answer : (m : Meaning) → WellFormed m → (r : Result Drawing Refusal) × Draws (problem m) r
  pub one_answer : (p : Problem) → Bounded p → (r s : Result Drawing Refusal) → Draws p r → Draws p s → s ≡ r
  pub impossible_exactly : (p : Problem) (r : Result Drawing Refusal) → Draws p r → ImpossibleExactly p r
  pub holds_every : (p : Problem) → Bounded p → (r : Result Drawing Refusal) → Draws p r → DrawnHoldsEvery p r
  pub exactly_in_some : (p : Problem) → Bounded p → (r : Result Drawing Refusal) → Draws p r → DrawnExactlyInSome p r
