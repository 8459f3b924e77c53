use Rattle.std.proofs.Common.{◌≡◌, drop}
use Rattle.std.specs.List.{flat_map}
use Rattle.store_model.specs.Store.{terms_of}
use Rattle.log_command.specs.Nodes.{greatest, larger}
use Rattle.log_command.proofs.nodes.greatest_in_triples.Given as goal

abbrev pub invariant-loop-triple : goal.invariant-loop-triple
invariant-loop-triple l = larger l.greatest (greatest l.session (flat_map terms_of (drop l.triple-index l.triples))) ≡ greatest l.session (flat_map terms_of l.triples)
