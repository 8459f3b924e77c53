use Rattle.std.proofs.Common.{◌≡◌, drop}
use Rattle.log_command.specs.Nodes.{greatest, larger, terms_in}
use Rattle.log_command.proofs.nodes.greatest_in.Given as goal

abbrev pub invariant-loop-entry : goal.invariant-loop-entry
invariant-loop-entry l = larger l.greatest (greatest l.session (terms_in (drop l.entry-index l.records))) ≡ greatest l.session (terms_in l.records)
