-- The small farm, and the book that it is made in, as what a book means.
use Rattle.std.specs.Prelude.{true, false, [], ◌∷◌}
use Rattle.book.specs.Asked.{plain}
use Rattle.book.specs.Meaning.{Material, Meaning, free, standing}

-- what is known of a material
abbrev pub wanted : Material
wanted = record { wanted = true; bought = false }

abbrev pub bought : Material
bought = record { wanted = false; bought = true }

-- a book of four plain materials and two free numbers
abbrev pub blank_farm : Meaning
blank_farm = record { materials = plain ∷ plain ∷ plain ∷ plain ∷ []; units = free ∷ free ∷ [] }

-- 1 is wanted and 2 is bought; unit 1 takes 2 and makes 1 and 3, unit 2 takes 4 and makes 1
abbrev pub small_farm : Meaning
small_farm = record {
  materials = wanted ∷ bought ∷ plain ∷ plain ∷ [];
  units = standing (record { inputs = 2 ∷ []; outputs = 1 ∷ 3 ∷ [] }) ∷ standing (record { inputs = 4 ∷ []; outputs = 1 ∷ [] }) ∷ [];
}
