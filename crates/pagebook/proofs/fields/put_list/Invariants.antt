-- so far the fields hold the first numbers of the list, and blanks behind them
use Rattle.std.proofs.Common.{◌≡◌, take}
use Rattle.page.specs.Format.{list_bytes}
use Rattle.pagebook.proofs.fields.put_list.Given as goal

abbrev pub invariant-loop-place : goal.invariant-loop-place
invariant-loop-place l = l.fields ≡ list_bytes (take l.place l.list)
