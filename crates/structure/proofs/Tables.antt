-- Tables, by which each value of a function is computed once.
use Rattle.std.proofs.Common.{◌≡◌, ℕ, suc, ◌<◌, Bool, false, List, map, get_or, arith}
use Rattle.std.specs.List.{range_with_len}
use Rattle.std.proofs.lemmas.List.{get_or_past}
use Rattle.std.proofs.lemmas.List.FromFn.{get_or-map-range_with_len, length-map-range_with_len}
use Rattle.structure.specs.Problem.{Numbers}

-- a function's values at 0 to n
abbrev pub table : {X : Type 0} → (ℕ → X) → ℕ → List X
table f n = map f (range_with_len 0 (suc n))

-- the numbers whose flags are set
abbrev pub flagged : List Bool → Numbers
flagged flags u = get_or flags u false

-- past n a table has the value that is asked for in its place
pub past_table : {X : Type 0} (f : ℕ → X) (n u : ℕ) (d : X) → n < u → get_or (table f n) u d ≡ d
past_table f n u d past = get_or_past (table f n) u d (omega (arith, length-map-range_with_len f 0 (suc n)))

-- a function that has that value past n is read off its table
pub at_table : {X : Type 0} (f : ℕ → X) (n u : ℕ) (d : X) → (n < u → f u ≡ d) → get_or (table f n) u d ≡ f u
at_table f n u d past = grind (arith, get_or-map-range_with_len f 0 (suc n) u u d, past_table f n u d, past)
