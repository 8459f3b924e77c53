use Rattle.std.proofs.Common.{◌≡◌, not}
use Rattle.std.specs.List.{filter}
use Rattle.collections.specs.Ordered.{has_item}
use Rattle.rdf_model.specs.Terms.{term_cmp}
use Rattle.commit_core.specs.Naming.{first_of}
use Rattle.commit_core.proofs.naming.first_not_given.Given as goal

abbrev pub invariant-loop-node : goal.invariant-loop-node
invariant-loop-node l = first_of (filter (λ t. not (has_item term_cmp t l.given)) l.node-iterator) ≡ first_of (filter (λ t. not (has_item term_cmp t l.given)) l.nodes)
