use Rattle.std.proofs.Common.{List, subst}
use Rattle.std.specs.Prelude.{MatchOption}
use Rattle.rdf_model.specs.declared.term.Term.{Term}
use Rattle.shape_references.specs.declared.bundle.Bundle.{Bundle}
use Rattle.shape_references.specs.Bundles.{IsBound, IsLeastNode}
use Rattle.shape_references.specs.Chains.{HasChain}
use Rattle.shape_references.proofs.BoundChains.{least_chain}
use Rattle.shape_references.proofs.bound.ReferenceGraph.least_with_chain.Goals as goal

pub returns : goal.returns
returns c =
    let own = c.self.inside in
    let name = rw c.as_slice.ensures.value at c.in_ok-name.ensures in
    let found = rw c.as_slice-2.ensures.value at c.in_ok-found.ensures in
    subst (λ (bundles : List Bundle). MatchOption c.in_ok-found.found ((n : Term) → HasChain (IsBound bundles) c.args.count n → ⊥) (λ n. IsLeastNode (HasChain (IsBound bundles) c.args.count) n)) c.self.view_is
    (least_chain own.bundles.items own.nodes.items own.edges.items c.self.invariant.nodes c.self.invariant.edges c.args.count c.requires.some c.in_ok-name.name c.in_ok-found.found name found)
