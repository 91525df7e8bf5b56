-- The frame that all the calls keep tells what the bytes are in the end.
use Rattle.std.proofs.Common.{rules}
use Rattle.roundtrip.proofs.Saved.{page_hidden}
use Rattle.roundtrip.proofs.hide_page.Goals as goal

pub returns : goal.returns
returns c = search (rules, page_hidden)
