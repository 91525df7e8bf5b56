-- The table's references lead to the lent rows, so that what is known of the table as it was left is known of them.
use Rattle.std.proofs.Common.{rules}
use Rattle.table.proofs.Opened.{left_told, left_exact, left_materials, left_units}
use Rattle.table.proofs.fit_first.Goals as goal

pub returns : goal.returns
returns c = record {
  told = search (rules, left_told);
  exact = search (rules, left_exact);
  materials_kept = search (rules, left_materials);
  units_kept = search (rules, left_units);
}
