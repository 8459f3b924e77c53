use Rattle.std.proofs.Common.{◌≡◌, ◌∙◌, map, subst, sym}
use Rattle.std.specs.List.{AllByRecursion}
use Rattle.std.proofs.lemmas.Result.{IfOk-weaker}
use Rattle.rdf_model.specs.Graphs.{after}
use Rattle.rdf_model.specs.Numbers.{AreNumbered}
use Rattle.triple_index.specs.Changes.{IsNumberedChange, change_at}
use Rattle.data_graph.specs.DataGraphs.{NamedGraph, triples_at, with_changes}
use Rattle.data_graph.proofs.Differing.{kept_index}
use Rattle.data_graph.proofs.Listed.{listed_after, numbered_after}
use Rattle.data_graph.proofs.graph.DataGraph.after_numbers.Goals as goal

pub with_numbers-requires : goal.with_numbers-requires
with_numbers-requires c =
    let terms = c.self.inside.names.terms in
    let ids = c.self.inside.numbers in
    let cs = c.args.changes.now in
    let later = c.in_ok-numbers.numbers in
    let numbered = subst (λ (d : NamedGraph). AllByRecursion (IsNumberedChange d.terms) cs) (sym c.self.view_is) c.requires in
    let kept = kept_index terms c.recall_numbering.ensures ids later cs c.self.invariant.1 c.recall_ascending.ensures numbered c.in_ok-numbers.ensures in
    subst (λ (d : NamedGraph). AreNumbered d.terms later) c.self.view_is (numbered_after terms ids later (map (change_at terms) cs) c.self.invariant.1 kept)

pub returns : goal.returns
returns c =
    let terms = c.self.inside.names.terms in
    let ids = c.self.inside.numbers in
    let cs = c.args.changes.now in
    let later = c.in_ok-numbers.numbers in
    let x = c.args.self.now in
    let numbered = subst (λ (d : NamedGraph). AllByRecursion (IsNumberedChange d.terms) cs) (sym c.self.view_is) c.requires in
    let kept = kept_index terms c.recall_numbering.ensures ids later cs c.self.invariant.1 c.recall_ascending.ensures numbered c.in_ok-numbers.ensures in
    let listed = listed_after terms ids later (map (change_at terms) cs) c.self.invariant.1 kept in
    let own : triples_at x.terms later ≡ after x.triples (map (change_at x.terms) cs) = subst (λ (d : NamedGraph). triples_at d.terms later ≡ after d.triples (map (change_at d.terms) cs)) c.self.view_is listed in
    IfOk-weaker c.with_numbers.result (λ (next : NamedGraph). next ≡ record { triples = triples_at x.terms later; shapes = x.shapes; terms = x.terms; limit = x.limit }) (λ (next : NamedGraph). next ≡ with_changes x (map (change_at x.terms) cs))
    (λ next e. e ∙ (λ k. record { triples = own k; shapes = x.shapes; terms = x.terms; limit = x.limit })) c.with_numbers.ensures
