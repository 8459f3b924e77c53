use Rattle.std.proofs.Common.{◌≡◌, take}
use Rattle.rdf_model.specs.Numbers.{graph_of}
use Rattle.triple_table.proofs.ranks.triples_of.Given as goal

abbrev pub invariant-loop-ids : goal.invariant-loop-ids
invariant-loop-ids l = l.found.items ≡ graph_of l.terms (take l.ids-index l.triples)
