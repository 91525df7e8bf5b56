-- What the two layers make of the meaning of the book below them: season lists and feeders.
use Rattle.std.specs.Prelude.{ℕ, ◌+◌, Bool, false, cond, not, ◌&&◌, ◌||◌, List, [], ◌∷◌, ◌++◌, map, ◌==◌, nat_le}
use Rattle.std.specs.List.{range_with_len}
use Rattle.book.specs.Meaning.{Material, UnitState, free, standing, withheld, Meaning, material_count, unit_count}
use Rattle.book.specs.Asked.{material_at}
use Rattle.book.specs.Edits.{hidden_state}

-- a season list says of unit numbers whether they are closed: the k-th of these is of number k.
-- A unit that stands below and is closed is withheld; all else is as below.
abbrev pub closed_units : List Bool → List UnitState → List UnitState
closed_units closed [] = []
closed_units [] (s ∷ ss) = s ∷ ss
closed_units (c ∷ cs) (s ∷ ss) = cond c (hidden_state s) s ∷ closed_units cs ss

abbrev pub season : List Bool → Meaning → Meaning
season closed m = record { materials = m.materials; units = closed_units closed m.units }

-- the list names x
abbrev pub names : ℕ → List ℕ → Bool
names x [] = false
names x (y ∷ ys) = x == y || names x ys

-- a standing unit there makes x
abbrev pub makes : ℕ → UnitState → Bool
makes x free = false
makes x (standing f) = names x f.outputs
makes x (withheld f) = false

abbrev pub made_in : ℕ → List UnitState → Bool
made_in x [] = false
made_in x (s ∷ ss) = makes x s || made_in x ss

-- feeders mend a material that is bought and also made or wanted: such a material splits
abbrev pub splits : Meaning → ℕ → Bool
splits m x = (material_at m x).bought && ((material_at m x).wanted || made_in x m.units)

-- a split material is no longer bought itself: the one that is bought for it is l + x, and feeder n + x makes x of that
abbrev pub mended : Meaning → ℕ → Material
mended m x = record { wanted = (material_at m x).wanted; bought = (material_at m x).bought && not (splits m x) }

abbrev pub fed : Meaning → ℕ → Material
fed m x = record { wanted = false; bought = splits m x }

abbrev pub feeder : Meaning → ℕ → UnitState
feeder m x = cond (splits m x) (standing (record { inputs = (material_count m + x) ∷ []; outputs = x ∷ [] })) free

-- a book that feeders can be put over: with its copies of the materials and its feeders it is still a book
abbrev pub room_for_feeders : Meaning → Bool
room_for_feeders m = nat_le (material_count m) 512 && nat_le (unit_count m + material_count m) 1024

abbrev pub empty_book : Meaning
empty_book = record { materials = []; units = [] }

-- a book with feeders: 2 l materials and n + l unit numbers. Over a book that is too large they are the empty book.
abbrev pub feeders : Meaning → Meaning
feeders m = cond (room_for_feeders m) (record {
  materials = map (mended m) (range_with_len 1 (material_count m)) ++ map (fed m) (range_with_len 1 (material_count m));
  units = m.units ++ map (feeder m) (range_with_len 1 (material_count m));
}) empty_book
