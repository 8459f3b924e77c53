use Rattle.std.proofs.Common.{List, sym, subst}
use Rattle.std.specs.Prelude.{MatchOption}
use Rattle.rdf_model.specs.declared.term.Term.{Term}
use Rattle.rdf_model.specs.declared.triple.Triple.{Triple}
use Rattle.collections.specs.Ordered.{IsAscending}
use Rattle.rdf_model.specs.Terms.{triple_cmp}
use Rattle.shape_references.specs.declared.bundle.Bundle.{Bundle}
use Rattle.shape_references.specs.Bundles.{IsBound, IsLeastNode}
use Rattle.shape_references.specs.Chains.{IsOnLoop}
use Rattle.shape_references.proofs.BoundChains.{least_loop}
use Rattle.shape_references.proofs.bound.ReferenceGraph.least_on_loop.Goals as goal

pub least_on_loop-requires : goal.least_on_loop-requires
least_on_loop-requires c = subst (λ (ts : List Triple). IsAscending triple_cmp ts) (sym c.as_slice.ensures.value) c.self.invariant.edges.ascending

pub returns : goal.returns
returns c =
    let own = c.self.inside in
    let name = rw c.as_slice.ensures.value at c.in_ok-name.ensures in
    let found = rw c.as_slice-2.ensures.value at c.in_ok-found.ensures in
    subst (λ (bundles : List Bundle). MatchOption c.in_ok-found.found ((n : Term) → IsOnLoop (IsBound bundles) n → ⊥) (λ n. IsLeastNode (IsOnLoop (IsBound bundles)) n)) c.self.view_is
    (least_loop own.bundles.items own.nodes.items own.edges.items c.self.invariant.nodes c.self.invariant.edges c.in_ok-name.name c.in_ok-found.found name found)
