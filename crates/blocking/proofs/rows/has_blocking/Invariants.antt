use Rattle.std.proofs.Common.{◌≡◌, drop}
use Rattle.store_model.specs.Blocking.{has_blocking}
use Rattle.blocking.proofs.rows.has_blocking.Given as goal

abbrev pub invariant-loop-row : goal.invariant-loop-row
invariant-loop-row l = has_blocking l.mode l.graph (drop l.row-index l.rows) ≡ has_blocking l.mode l.graph l.rows
