use Rattle.std.proofs.Common.{◌∙◌, ap, refl, subst, sym}
use Rattle.collections.specs.Ordered.{has_item}
use Rattle.rdf_model.specs.Numbers.{triple_at}
use Rattle.rdf_model.specs.Terms.{triple_cmp}
use Rattle.triple_index.specs.Changes.{IsNumbered}
use Rattle.data_graph.specs.DataGraphs.{NamedGraph, triples_at}
use Rattle.data_graph.proofs.Listed.{stands_there, test_is}
use Rattle.data_graph.proofs.graph.DataGraph.contains_numbers.Goals as goal

pub returns : goal.returns
returns c =
    let terms = c.self.inside.names.terms in
    let numbers = c.self.inside.numbers in
    let i = c.args.ids in
    let numbered = subst (λ (d : NamedGraph). IsNumbered d.terms i) (sym c.self.view_is) c.requires in
    let there = stands_there terms c.recall_numbering.ensures numbers i (triple_at terms i) c.self.invariant.1 numbered refl in
    test_is c.contains.result (triples_at terms numbers) (triple_at terms i) (λ e. there.0 (c.contains.ensures.0 e), λ d. c.contains.ensures.1 (there.1 d))
    ∙ ap (λ (d : NamedGraph). has_item triple_cmp (triple_at d.terms i) d.triples) c.self.view_is
