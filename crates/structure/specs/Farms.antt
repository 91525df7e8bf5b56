-- Worked farms: what the rules of a drawing give for each, worked out by hand.
use Rattle.std.specs.Prelude.{◌≡◌, ℕ, ◌-◌, true, false, List, [], ◌∷◌, ◌++◌, length, replicate, Ok, Err}
use Rattle.book.specs.declared.Refusal.{Refusal}
use Rattle.book.specs.Meaning.{Material, UnitState, standing, Meaning}
use Rattle.book.specs.Asked.{plain}
use Rattle.book.specs.Refusals.{told}
use Rattle.book.specs.Layers.{season, feeders}
use Rattle.structure.specs.declared.Mark.{Mark}
use Rattle.structure.specs.declared.Mark.TheVariants.{Unasked, Idle, Drawn}
use Rattle.structure.specs.Problem.{problem}
use Rattle.structure.specs.Answers.{Draws}

-- a wanted material, a bought one, and a standing unit with what it takes and what it makes
abbrev pub wanted : Material
wanted = record { wanted = true; bought = false }

abbrev pub bought : Material
bought = record { wanted = false; bought = true }

abbrev pub unit : List ℕ → List ℕ → UnitState
unit takes makes = standing (record { inputs = takes; outputs = makes })

abbrev pub farm : List Material → List UnitState → Meaning
farm materials units = record { materials = materials; units = units }

-- the first marks or ranks of a sheet's 1,024; the others are as on a new sheet
abbrev pub first_of : {X : Type 0} → X → List X → List X
first_of fresh xs = xs ++ replicate (1024 - length xs) fresh

-- a draw over the book is accepted, with these marks and ranks of units, these marks of materials and these two counts
abbrev pub Drawn_as : Meaning → List Mark → List ℕ → List Mark → (units materials : ℕ) → Type 0
Drawn_as m unit_marks ranks material_marks units materials =
    Draws (problem m) (Ok (record {
      unit_marks = first_of Unasked unit_marks;
      ranks = first_of 0 ranks;
      material_marks = first_of Unasked material_marks;
      units_drawn = units;
      materials_drawn = materials;
    }))

-- a draw over the book is refused, with this number
abbrev pub Refused_as : Meaning → ℕ → Type 0
Refused_as m number = (e : Refusal) × ((told e).number ≡ number) × Draws (problem m) (Err e)

-- four materials; unit 1 takes 2 and makes 1 and 3, unit 2 takes 4 and makes 1
abbrev pub two_units : List Material → Meaning
two_units materials = farm materials (unit (2 ∷ []) (1 ∷ (3 ∷ [])) ∷ (unit (4 ∷ []) (1 ∷ []) ∷ []))

-- 1 is wanted, 2 bought
abbrev pub small_farm : Meaning
small_farm = two_units (wanted ∷ (bought ∷ (plain ∷ (plain ∷ []))))

-- 1 is wanted and 2 bought, and there is one unit
abbrev pub one_unit : List ℕ → List ℕ → Meaning
one_unit takes makes = farm (wanted ∷ (bought ∷ [])) (unit takes makes ∷ [])

-- 1 is wanted, 2 bought, 3 plain; unit 2 makes what is bought
abbrev pub whey_back : Meaning
whey_back = farm (wanted ∷ (bought ∷ (plain ∷ []))) (unit (2 ∷ []) (1 ∷ (3 ∷ [])) ∷ (unit (3 ∷ []) (2 ∷ []) ∷ []))

-- eleven units and eighteen materials: 2 is wanted; 6, 8, 13 and 16 are bought
abbrev pub eleven_units : Meaning
eleven_units =
    farm
    (plain ∷ (wanted ∷ (plain ∷ (plain ∷ (plain ∷ (bought ∷ (plain ∷ (bought ∷ (plain ∷ (plain ∷ (plain ∷ (plain ∷ (bought ∷ (plain ∷ (plain ∷ (bought ∷ (plain ∷ (plain ∷ []))))))))))))))))))
    (unit (3 ∷ (4 ∷ (6 ∷ []))) (1 ∷ [])
    ∷ (unit (4 ∷ []) (2 ∷ (7 ∷ []))
    ∷ (unit (5 ∷ []) (2 ∷ (17 ∷ []))
    ∷ (unit (6 ∷ (7 ∷ [])) (3 ∷ (4 ∷ []))
    ∷ (unit (7 ∷ (8 ∷ [])) (4 ∷ [])
    ∷ (unit (8 ∷ (9 ∷ [])) (5 ∷ [])
    ∷ (unit (10 ∷ (11 ∷ [])) (5 ∷ [])
    ∷ (unit (13 ∷ []) (7 ∷ [])
    ∷ (unit (14 ∷ (15 ∷ [])) (8 ∷ [])
    ∷ (unit (16 ∷ (17 ∷ [])) (9 ∷ [])
    ∷ (unit (18 ∷ []) (10 ∷ [])
    ∷ [])))))))))))

-- the farms, each with its drawing or the number of its refusal
pub record WorkedFarms : Type 0 where
  pub small : Drawn_as small_farm (Drawn ∷ (Idle ∷ [])) (1 ∷ (0 ∷ [])) (Drawn ∷ (Drawn ∷ (Drawn ∷ (Idle ∷ [])))) 1 3
  -- unit 1 is closed by a season list
  pub closed : Refused_as (season (true ∷ []) small_farm) 8
  -- 3 is wanted too; 4 is wanted in the place of 1; 4 is wanted beside 1
  pub three_too : Drawn_as (two_units (wanted ∷ (bought ∷ (wanted ∷ (plain ∷ []))))) (Drawn ∷ (Idle ∷ [])) (1 ∷ (0 ∷ [])) (Drawn ∷ (Drawn ∷ (Drawn ∷ (Idle ∷ [])))) 1 3
  pub four_for_one : Refused_as (two_units (plain ∷ (bought ∷ (plain ∷ (wanted ∷ []))))) 8
  pub four_too : Refused_as (two_units (wanted ∷ (bought ∷ (plain ∷ (wanted ∷ []))))) 8
  -- a unit that takes what it makes is drawn, and so is one that takes nothing; one that makes nothing is no plant
  pub loop : Drawn_as (one_unit (1 ∷ []) (1 ∷ [])) (Drawn ∷ []) (1 ∷ []) (Drawn ∷ (Idle ∷ [])) 1 1
  pub from_nothing : Drawn_as (one_unit [] (1 ∷ [])) (Drawn ∷ []) (1 ∷ []) (Drawn ∷ (Idle ∷ [])) 1 1
  pub to_nothing : Refused_as (one_unit (1 ∷ []) []) 8
  pub nothing_at_all : Refused_as (one_unit [] []) 8
  -- 1 is wanted, 2 and 3 are bought, and the only unit makes 2 besides
  pub makes_bought : Refused_as (farm (wanted ∷ (bought ∷ (bought ∷ []))) (unit (3 ∷ []) (1 ∷ (2 ∷ [])) ∷ [])) 8
  -- a unit that makes what is bought is idle; with feeders it is drawn
  pub bare : Drawn_as whey_back (Drawn ∷ (Idle ∷ [])) (1 ∷ (0 ∷ [])) (Drawn ∷ (Drawn ∷ (Drawn ∷ []))) 1 3
  pub fed :
      Drawn_as (feeders whey_back) (Drawn ∷ (Drawn ∷ (Unasked ∷ (Drawn ∷ (Unasked ∷ []))))) (1 ∷ (2 ∷ (0 ∷ (2 ∷ (0 ∷ [])))))
      (Drawn ∷ (Drawn ∷ (Drawn ∷ (Idle ∷ (Drawn ∷ (Idle ∷ [])))))) 3 4
  pub eleven :
      Drawn_as eleven_units
      (Idle ∷ (Drawn ∷ (Drawn ∷ (Drawn ∷ (Drawn ∷ (Drawn ∷ (Idle ∷ (Drawn ∷ (Idle ∷ (Drawn ∷ (Idle ∷ [])))))))))))
      (0 ∷ (1 ∷ (1 ∷ (2 ∷ (2 ∷ (2 ∷ (0 ∷ (3 ∷ (0 ∷ (3 ∷ (0 ∷ [])))))))))))
      (Idle ∷ (Drawn ∷ (Drawn ∷ (Drawn ∷ (Drawn ∷ (Drawn ∷ (Drawn ∷ (Drawn ∷ (Drawn ∷ (Idle ∷ (Idle ∷ (Idle ∷ (Drawn ∷ (Idle ∷ (Idle ∷ (Drawn ∷ (Drawn ∷ (Idle ∷ []))))))))))))))))))
      7 11
  -- 1 is wanted, 2 bought; unit 1 takes 2 and makes 1, unit 2 takes 3 and makes 4, unit 3 takes 4 and makes 1
  pub starved_twice :
      Drawn_as (farm (wanted ∷ (bought ∷ (plain ∷ (plain ∷ [])))) (unit (2 ∷ []) (1 ∷ []) ∷ (unit (3 ∷ []) (4 ∷ []) ∷ (unit (4 ∷ []) (1 ∷ []) ∷ []))))
      (Drawn ∷ (Idle ∷ (Idle ∷ []))) (1 ∷ (0 ∷ (0 ∷ []))) (Drawn ∷ (Drawn ∷ (Idle ∷ (Idle ∷ [])))) 1 2
  -- nothing wanted; nothing bought; 2 wanted and bought
  pub none_wanted : Refused_as (two_units (plain ∷ (bought ∷ (plain ∷ (plain ∷ []))))) 5
  pub none_bought : Refused_as (two_units (wanted ∷ (plain ∷ (plain ∷ (plain ∷ []))))) 6
  pub both : Refused_as (two_units (wanted ∷ (record { wanted = true; bought = true } ∷ (plain ∷ (plain ∷ []))))) 7
