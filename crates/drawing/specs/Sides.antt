-- The lists of one side, and the problem that two sides make with the flags of materials and units.
use Rattle.std.specs.Prelude.{◌≡◌, ℕ, Bool, List}
use Rattle.structure.specs.Problem.{Problem}
use Rattle.drawing.specs.declared.lists.SideLists.{SideLists}
use Rattle.drawing.specs.Flags.{flagged}
use Rattle.drawing.specs.Lists.{listed}

-- unit u's list on this side
abbrev pub list_at : SideLists → ℕ → List ℕ
list_at s u = listed s.counts s.entries u

-- a side with these lists
abbrev pub Holds : SideLists → (ℕ → List ℕ) → Type 0
Holds s lists = (u : ℕ) → list_at s u ≡ lists u

-- the problem that is made of so many materials and units, their flags and lists
abbrev pub problem_of : (materials units : ℕ) (wanted bought standing : List Bool) (inputs outputs : SideLists) → Problem
problem_of materials units wanted bought standing inputs outputs = record {
  materials = materials;
  units = units;
  wanted = flagged wanted;
  bought = flagged bought;
  standing = flagged standing;
  inputs = list_at inputs;
  outputs = list_at outputs;
}
