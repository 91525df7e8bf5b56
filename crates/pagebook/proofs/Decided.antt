-- Edits that no reason declines. Assumes nothing.
use Rattle.std.proofs.Common.{◌≡◌, ℕ, true, ◌&&◌, None}
use Rattle.book.specs.Refusals.{first_refusal}
use Rattle.book.specs.Meaning.{Fitted, Meaning, material_count, unit_count}
use Rattle.book.specs.Declined.{inside, fitting, state_at, is_free, is_standing, withheld_at, fit_reasons, class_reasons, hide_reasons, return_reasons}

-- to fit a unit with two lists that it may have, at a free number of the book
pub fit_passes : (m : Meaning) (k : ℕ) (f : Fitted) → inside k (unit_count m) ≡ true → (fitting (material_count m) f.inputs && fitting (material_count m) f.outputs) ≡ true → is_free (state_at m k) ≡ true → first_refusal (fit_reasons m k f) ≡ None
fit_passes m k f there listed free_there = rw (there, listed, free_there)

-- to class a material that the book has
pub class_passes : (m : Meaning) (k : ℕ) → inside k (material_count m) ≡ true → first_refusal (class_reasons m k) ≡ None
class_passes m k there = rw there

-- to hide a standing unit of the book
pub hide_passes : (m : Meaning) (k : ℕ) → inside k (unit_count m) ≡ true → is_standing (state_at m k) ≡ true → first_refusal (hide_reasons m k) ≡ None
hide_passes m k there stands = rw (there, stands)

-- to show or clear a withheld unit
pub return_passes : (m : Meaning) (k : ℕ) → withheld_at m k ≡ true → first_refusal (return_reasons m k) ≡ None
return_passes m k e = rw e
