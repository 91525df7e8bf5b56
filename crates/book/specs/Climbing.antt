-- The list that numbers in a row of places stand for, where nothing is known of them.
use Rattle.std.specs.Prelude.{ℕ, cond, ◌&&◌, List, [], ◌∷◌, nat_le, nat_lt}

-- the longest front of the list in which each number is above the one before it, the first above `last`, and none above
-- `highest`
abbrev pub climbing : (last highest : ℕ) → List ℕ → List ℕ
climbing last highest [] = []
climbing last highest (x ∷ xs) = cond (nat_lt last x && nat_le x highest) (x ∷ climbing x highest xs) []
