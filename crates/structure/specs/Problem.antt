-- What the drawing needs of a book: which materials are wanted, which are bought, which units stand, and what each takes
-- and makes. Whatever else is known of a unit plays no part.
use Rattle.std.specs.Prelude.{◌≡◌, ℕ, ◌≤◌, Bool, true, false, ◌⊎◌, List, [], Some, None, Option}
use Rattle.std.specs.Option.{unwrap_or}
use Rattle.book.specs.Meaning.{Fitted, Meaning, material_count, unit_count}
use Rattle.book.specs.Asked.{wanted_at, bought_at, stands_at, fitted_at}
use Rattle.book.specs.Layers.{names}

-- a set of unit numbers or of materials: for each number, whether it is in the set
abbrev pub Numbers : Type 0
Numbers = ℕ → Bool

-- the set s has the number x
abbrev pub Member : Numbers → ℕ → Type 0
Member s x = s x ≡ true

-- every number of s is in t
abbrev pub Within : Numbers → Numbers → Type 0
Within s t = (x : ℕ) → Member s x → Member t x

-- materials 1 to `materials`, unit numbers 1 to `units`; P, the wanted materials; R, the bought ones; O, the standing units,
-- each with the materials that it takes and those that it makes. Order and repeats in a list mean nothing.
pub record Problem : Type 0 where
  pub materials : ℕ
  pub units : ℕ
  pub wanted : Numbers
  pub bought : Numbers
  pub standing : Numbers
  pub inputs : ℕ → List ℕ
  pub outputs : ℕ → List ℕ

-- unit u takes material x
abbrev pub Takes : Problem → ℕ → ℕ → Type 0
Takes p u x = names x (p.inputs u) ≡ true

-- unit u makes material x
abbrev pub Makes : Problem → ℕ → ℕ → Type 0
Makes p u x = names x (p.outputs u) ≡ true

-- some unit of o makes x
abbrev pub MadeIn : Problem → Numbers → ℕ → Type 0
MadeIn p o x = (u : ℕ) × Member o u × Makes p u x

-- some unit of o takes x or makes it
abbrev pub Touched : Problem → Numbers → ℕ → Type 0
Touched p o x = (u : ℕ) × Member o u × (Takes p u x ⊎ Makes p u x)

-- the numbers that stand are among 1 to n, and what is known of materials is known of 1 to l
pub record Bounded (p : Problem) : Type 0 where
  pub wanted_known : (x : ℕ) → Member p.wanted x → (1 ≤ x) × (x ≤ p.materials)
  pub bought_known : (x : ℕ) → Member p.bought x → (1 ≤ x) × (x ≤ p.materials)
  pub units_known : (u : ℕ) → Member p.standing u → (1 ≤ u) × (u ≤ p.units)
  pub inputs_known : (u x : ℕ) → Takes p u x → (1 ≤ x) × (x ≤ p.materials)
  pub outputs_known : (u x : ℕ) → Makes p u x → (1 ≤ x) × (x ≤ p.materials)

-- a list of a unit that stands; of any other number nothing is told, and its list is empty
abbrev pub list_of : (Fitted → List ℕ) → Option Fitted → List ℕ
list_of side None = []
list_of side (Some f) = side f

-- what a book sets as a problem
abbrev pub problem : Meaning → Problem
problem m = record {
  materials = material_count m;
  units = unit_count m;
  wanted = λ x. unwrap_or (wanted_at x m) false;
  bought = λ x. unwrap_or (bought_at x m) false;
  standing = λ u. unwrap_or (stands_at u m) false;
  inputs = λ u. list_of (λ f. f.inputs) (fitted_at u m);
  outputs = λ u. list_of (λ f. f.outputs) (fitted_at u m);
}
