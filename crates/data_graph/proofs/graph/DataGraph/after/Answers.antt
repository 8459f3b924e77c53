use Rattle.std.proofs.Common.{◌≡◌, ◌∙◌, subst, sym}
use Rattle.std.proofs.lemmas.Result.{IfOk-weaker}
use Rattle.rdf_model.specs.Graphs.{after}
use Rattle.rdf_model.specs.Numbers.{AreNumbered}
use Rattle.data_graph.specs.DataGraphs.{AreNamedChanges, NamedGraph, triples_at, with_changes}
use Rattle.data_graph.proofs.Listed.{listed_after, numbered_after}
use Rattle.data_graph.proofs.graph.DataGraph.after.Goals as goal

pub index_after-requires : goal.index_after-requires
index_after-requires c = subst (λ (d : NamedGraph). AreNamedChanges d.terms c.args.net.now) (sym c.self.view_is) c.requires

pub with_numbers-requires : goal.with_numbers-requires
with_numbers-requires c =
    subst (λ (d : NamedGraph). AreNumbered d.terms c.in_ok-numbers.numbers) c.self.view_is
    (numbered_after c.self.inside.names.terms c.self.inside.numbers c.in_ok-numbers.numbers c.args.net.now c.self.invariant.1 c.in_ok-numbers.ensures)

pub returns : goal.returns
returns c =
    let x = c.args.self.now in
    let net = c.args.net.now in
    let later = c.in_ok-numbers.numbers in
    let listed = listed_after c.self.inside.names.terms c.self.inside.numbers later net c.self.invariant.1 c.in_ok-numbers.ensures in
    let own : triples_at x.terms later ≡ after x.triples net = subst (λ (d : NamedGraph). triples_at d.terms later ≡ after d.triples net) c.self.view_is listed in
    IfOk-weaker c.with_numbers.result (λ (next : NamedGraph). next ≡ record { triples = triples_at x.terms later; shapes = x.shapes; terms = x.terms; limit = x.limit }) (λ (next : NamedGraph). next ≡ with_changes x net)
    (λ next e. e ∙ (λ k. record { triples = own k; shapes = x.shapes; terms = x.terms; limit = x.limit })) c.with_numbers.ensures
