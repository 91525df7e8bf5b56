-- What the check answers is the one answer that the bytes have.
use Rattle.std.proofs.Common.{is_ok, Err, sym, ap, ◌∙◌}
use Rattle.pagebook.proofs.is_page.Goals as goal

pub returns-clause-refused : goal.returns-clause-refused
returns-clause-refused c line column fault = c.is_ok.ensures.value ∙ sym (ap is_ok (c.check.ensures.only (Err (record { line = line; column = column })) fault))
