-- How a sheet is written from ranks.
use Rattle.std.specs.Prelude.{◌≡◌, ℕ, ◌+◌, ◌<◌, ◌≤◌, List, length, drop, Ok, Err, Decides, Result, nat_lt, slice_index, slice_index_or}
use Rattle.book.specs.declared.Refusal.{Refusal}
use Rattle.structure.specs.declared.Mark.{Mark}
use Rattle.structure.specs.declared.Mark.TheVariants.{Unasked}
use Rattle.structure.specs.Problem.{Numbers, Problem}
use Rattle.structure.specs.Supported.{Spanned}
use Rattle.structure.specs.Answers.{Drawing, mark_for}
use Rattle.sheet.specs.declared.Sheet.{Sheet}
use Rattle.sheet.specs.Sheets.{contents, whole}

-- a mark for each of 1,024 numbers, from the flags of what is drawn and of what is there
pub record MarksFor (drawn there : Numbers) (marks : List Mark) : Type 0 where
  pub long : length marks ≡ 1024
  pub each : (k : ℕ) → k < 1024 → slice_index_or marks k Unasked ≡ mark_for (drawn (k + 1)) (there (k + 1))

-- the units that have a rank
abbrev pub ranked : List ℕ → Numbers
ranked ranks u = nat_lt 0 (slice_index ranks u)

-- the numbers from 1 to the last
abbrev pub UpTo : ℕ → Numbers → Type 0
UpTo last s = (k : ℕ) → Decides (s k) ((1 ≤ k) × (k ≤ last))

-- a sheet that shows the units that have a rank, and what they take and make
pub record Pictured (p : Problem) (ranks : List ℕ) (d : Drawing) : Type 0 where
  -- the materials that are drawn, and those that the book has
  pub drawn_materials : Numbers
  pub known : Numbers
  pub spanned : Spanned p (ranked ranks) drawn_materials
  pub up_to : UpTo p.materials known
  pub unit_marks : MarksFor (ranked ranks) p.standing d.unit_marks
  pub material_marks : MarksFor drawn_materials known d.material_marks
  pub written : d ≡ whole d.unit_marks d.material_marks (drop 1 ranks)

-- what a draw answers, by what the sheet holds
abbrev pub answer_of : Result Sheet Refusal → Result Drawing Refusal
answer_of (Ok sheet) = Ok (contents sheet)
answer_of (Err e) = Err e
