use Rattle.std.proofs.Common.{◌≡◌, ◌∙◌, List, [], ap, sym, subst}
use Rattle.rdf_model.specs.declared.ids.Ids.{Ids}
use Rattle.rdf_model.specs.Numbers.{AreNumbered}
use Rattle.term_dict.specs.Names.{Named}
use Rattle.data_graph.specs.DataGraphs.{triples_at}
use Rattle.data_graph.proofs.Growing.{no_triple_named, words_first}
use Rattle.data_graph.proofs.graph.DataGraph.new.Goals as goal

pub new-requires-2-clause-words : goal.new-requires-2-clause-words
new-requires-2-clause-words c = words_first c.in_ok-names.names.terms (ap (λ (d : Named). d.terms) c.in_ok-names.ensures)

pub new-requires-2-clause-named : goal.new-requires-2-clause-named
new-requires-2-clause-named c = no_triple_named c.in_ok-names.names.terms _ c.in_ok-empty.ensures

pub invariant_of-result : goal.invariant_of-result
invariant_of-result c = (
  words_first c.in_ok-names.names.terms (ap (λ (d : Named). d.terms) c.in_ok-names.ensures),
  subst (λ (ids : List Ids). AreNumbered c.in_ok-names.names.terms ids) (sym c.new-3.ensures) tt,
  c.in_ok-shapes.ensures.bound,
)

pub returns : goal.returns
returns c =
    let shapes : c.in_ok-shapes.shapes.graph ≡ [] = c.in_ok-shapes.ensures.graph ∙ c.in_ok-empty.ensures in
    λ k. record { triples = triples_at (c.in_ok-names.ensures k).terms (c.new-3.ensures k); shapes = shapes k; terms = (c.in_ok-names.ensures k).terms; limit = (c.in_ok-names.ensures k).limit }
