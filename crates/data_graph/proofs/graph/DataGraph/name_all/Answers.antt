use Rattle.std.proofs.Common.{◌≡◌, ◌∙◌, ap}
use Rattle.term_dict.specs.Names.{Named}
use Rattle.data_graph.specs.DataGraphs.{NamedGraph, triples_at, with_names}
use Rattle.data_graph.proofs.Growing.{bound_more, words_more}
use Rattle.data_graph.proofs.Listed.{listed_more, numbered_more}
use Rattle.data_graph.proofs.graph.DataGraph.name_all.Goals as goal

pub invariant_of-self-2 : goal.invariant_of-self-2
invariant_of-self-2 c =
    let terms = c.self.inside.names.terms in
    let more = c.name_all.new.self.terms in
    let named = ap (λ (d : Named). d.terms) c.in_ok-numbers.ensures.ok in (
      words_more terms more c.args.terms.now named c.self.invariant.0,
      numbered_more terms more c.args.terms.now c.self.inside.numbers named c.self.invariant.1,
      bound_more terms more c.args.terms.now c.self.inside.shapes named c.self.invariant.2,
    )

pub returns-clause-ok : goal.returns-clause-ok
returns-clause-ok c =
    let terms = c.self.inside.names.terms in
    let more = c.name_all.new.self.terms in
    let named = c.in_ok-numbers.ensures.ok in
    let listed : triples_at more c.self.inside.numbers ≡ triples_at terms c.self.inside.numbers = listed_more terms more c.args.terms.now c.self.inside.numbers (ap (λ (d : Named). d.terms) named) c.self.invariant.1 in
    (λ k. record { triples = listed k; shapes = c.self.inside.shapes.graph; terms = (named k).terms; limit = (named k).limit }) ∙ ap (λ (d : NamedGraph). with_names d c.args.terms.now) c.self.view_is
