-- The table as a book: its meaning, its frame, and what it owes.
use Rattle.std.specs.Prelude.{◌≡◌, List, refl}
use Rattle.std.proofs.Common.{◌∙◌}
use Rattle.book.specs.Meaning.{Meaning}
use Rattle.book.specs.Laws.{Laws}
use Rattle.table.specs.declared.TableBook.{TableBook}
use Rattle.table.specs.Rows.{used, of_rows, Exact, RowsKept}
use Rattle.table.specs.WellFormed.{of_rows_well_formed}

abbrev pub table_meaning : TableBook → Meaning
table_meaning t = of_rows t.materials.now t.units.now

-- what no call changes: where the rows are, how many they are, those beyond the table's own; and rows that hold exactly
-- what they mean go on doing so
pub record TableKept (before after : TableBook) : Type 0 where
  pub materials_there : after.materials.ghost_name ≡ before.materials.ghost_name
  pub units_there : after.units.ghost_name ≡ before.units.ghost_name
  pub materials_kept : RowsKept before.materials.now after.materials.now
  pub units_kept : RowsKept before.units.now after.units.now
  pub exact : Exact (used before.materials.now) before.units.now → Exact (used after.materials.now) after.units.now

-- rows are kept where nothing is written, and over any run of calls
pub rows_keep : {R : Type 0} (rows : List R) → RowsKept rows rows
rows_keep rows = record { size = refl; beyond = refl }

rows_chain : {R : Type 0} {a b c : List R} → RowsKept a b → RowsKept b c → RowsKept a c
rows_chain v w = record { size = w.size ∙ v.size; beyond = w.beyond ∙ v.beyond }

-- what the table owes as a book
pub table_laws : Laws table_meaning TableKept
table_laws = record {
  well_formed = λ t. of_rows_well_formed t.materials.now t.units.now;
  keeps = λ t. record {
    materials_there = refl;
    units_there = refl;
    materials_kept = rows_keep t.materials.now;
    units_kept = rows_keep t.units.now;
    exact = λ e. e;
  };
  chains = λ a b c v w. record {
    materials_there = w.materials_there ∙ v.materials_there;
    units_there = w.units_there ∙ v.units_there;
    materials_kept = rows_chain v.materials_kept w.materials_kept;
    units_kept = rows_chain v.units_kept w.units_kept;
    exact = λ e. w.exact (v.exact e);
  };
}
