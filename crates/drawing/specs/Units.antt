-- The units that a walk along the links of one material has still to give.
use Rattle.std.specs.Prelude.{ℕ, zero, suc, ◌/◌, cond, List, [], ◌∷◌, Some, None, Option, ◌==◌, slice_index}
use Rattle.drawing.specs.declared.lists.UnitsWith.{UnitsWith}

-- the units of the entries below the place n that are the material x, from the last to the first
abbrev pub units_below : List ℕ → ℕ → ℕ → List ℕ
units_below entries x zero = []
units_below entries x (suc e) = cond (slice_index entries e == x) (e / 8 ∷ units_below entries x e) (units_below entries x e)

-- the units of the entry at this place and of those before it that are the same material
abbrev pub units_up_to : List ℕ → Option ℕ → List ℕ
units_up_to entries None = []
units_up_to entries (Some e) = units_below entries (slice_index entries e) (suc e)

-- the units still to come
abbrev pub units_left : UnitsWith → List ℕ
units_left w = units_up_to w.lists.now.entries w.next
