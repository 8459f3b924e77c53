use Rattle.std.proofs.Common.{◌≡◌, take}
use Rattle.rdf_model.specs.Numbers.{graph_of}
use Rattle.follow_command.proofs.triples.triples_of.Given as goal

abbrev pub invariant-loop-numbers : goal.invariant-loop-numbers
invariant-loop-numbers l = l.triples.items ≡ graph_of l.names.terms (take l.numbers-index l.ids)
