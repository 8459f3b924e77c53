use Rattle.std.proofs.Common.{◌≡◌, ◌∙◌, List, [], ap, sym}
use Rattle.std.proofs.lemmas.Result.{IfOk-weaker}
use Rattle.rdf_model.specs.declared.triple.Triple.{Triple}
use Rattle.rdf_model.specs.Graphs.{after, with_each}
use Rattle.store_model.specs.Finds.{found}
use Rattle.data_graph.specs.DataGraphs.{NamedGraph, triples_at}
use Rattle.data_graph.specs.Finding.{changes_asked}
use Rattle.data_graph.proofs.Finding.{found_after}
use Rattle.data_graph.proofs.Listed.{ascends}
use Rattle.data_graph.proofs.graph.DataGraph.find.Goals as goal

pub triples_asked-requires : goal.triples_asked-requires
triples_asked-requires c = c.self.invariant.1

pub returns : goal.returns
returns c =
    let p = c.args.pattern.now in
    let net = c.args.net.now in
    let terms = c.self.inside.names.terms in
    let ids = c.self.inside.numbers in
    let g = triples_at terms ids in
    IfOk-weaker c.sorted_after_asked.result (λ v. v.items ≡ after (with_each [] c.in_ok-triples.triples.items) (changes_asked p net)) (λ v. v.items ≡ found (after c.args.self.now.triples net) p)
    (λ v e. e ∙ (ap (λ (ts : List Triple). after ts (changes_asked p net)) c.in_ok-triples.ensures ∙ (sym (found_after p g net (ascends terms ids)) ∙ ap (λ (d : NamedGraph). found (after d.triples net) p) c.self.view_is)))
    c.sorted_after_asked.ensures
