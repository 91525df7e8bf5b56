-- What a sheet holds.
use Rattle.std.specs.Prelude.{ℕ, List, replicate, count_by}
use Rattle.structure.specs.declared.Mark.{Mark}
use Rattle.structure.specs.declared.Mark.TheVariants.{Unasked}
use Rattle.structure.specs.Answers.{Drawing, is_drawn}
use Rattle.sheet.specs.declared.Sheet.{Sheet}

-- the marks, ranks and counts of a sheet
abbrev pub contents : Sheet → Drawing
contents s = record {
  unit_marks = s.unit_marks;
  material_marks = s.material_marks;
  ranks = s.ranks;
  units_drawn = s.units_drawn;
  materials_drawn = s.materials_drawn;
}

-- a new sheet: every mark unasked, every rank 0, nothing drawn
abbrev pub fresh : Drawing
fresh = record {
  unit_marks = replicate 1024 Unasked;
  material_marks = replicate 1024 Unasked;
  ranks = replicate 1024 0;
  units_drawn = 0;
  materials_drawn = 0;
}

-- a sheet with these marks and ranks: its counts are the numbers of drawn marks
abbrev pub whole : List Mark → List Mark → List ℕ → Drawing
whole unit_marks material_marks ranks = record {
  unit_marks = unit_marks;
  material_marks = material_marks;
  ranks = ranks;
  units_drawn = count_by is_drawn unit_marks;
  materials_drawn = count_by is_drawn material_marks;
}
