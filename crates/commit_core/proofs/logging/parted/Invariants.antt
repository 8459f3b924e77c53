use Rattle.std.proofs.Common.{◌≡◌, not, take}
use Rattle.std.specs.List.{filter}
use Rattle.collections.specs.Ordered.{has_item}
use Rattle.rdf_model.specs.Terms.{triple_cmp}
use Rattle.commit_core.proofs.logging.parted.Given as goal

abbrev pub invariant-loop-triple : goal.invariant-loop-triple
invariant-loop-triple l = (l.there.items ≡ filter (λ t. has_item triple_cmp t l.graph.triples) (take l.triple-index l.triples)) × (l.absent.items ≡ filter (λ t. not (has_item triple_cmp t l.graph.triples)) (take l.triple-index l.triples))
