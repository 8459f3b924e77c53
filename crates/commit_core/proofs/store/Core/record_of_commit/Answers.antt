use Rattle.std.proofs.Common.{◌≡◌, ◌∙◌, ◌+◌, List, [], ap, length, subst, sym}
use Rattle.rdf_model.specs.declared.ids.Ids.{Ids}
use Rattle.rdf_model.specs.declared.term.Term.{Term}
use Rattle.rdf_model.specs.declared.triple.Triple.{Triple}
use Rattle.rdf_model.specs.Graphs.{after, differing, with_each}
use Rattle.rdf_model.specs.Numbers.{AreNumbered, graph_of}
use Rattle.store_model.specs.Store.{RecordedStore, version}
use Rattle.data_graph.specs.DataGraphs.{NamedGraph}
use Rattle.commit_core.specs.Logged.{IsRecordOf}
use Rattle.commit_core.proofs.LoggedCommits.{record_is, record_read}
use Rattle.commit_core.proofs.store.Core.record_of_commit.Goals as goal

pub triples_of-requires : goal.triples_of-requires
triples_of-requires c =
    let names : c.graph-graph.result.now.terms ≡ c.args.self.now.state.named = ap (λ (d : NamedGraph). d.terms) c.graph-graph.ensures ∙ ap (λ (r : RecordedStore). r.state.named) c.self.view_is in
    subst (λ (ids : List Ids). AreNumbered c.graph-graph.result.now.terms ids) (sym c.deref.ensures.value) (subst (λ (ts : List Term). AreNumbered ts c.args.acceptance.now.changed.items) (sym names) c.requires.changed.1)

pub returns-clause-is : goal.returns-clause-is
returns-clause-is c =
    let s = c.args.self.now.state in
    let x = c.args.transaction.now in
    let number = ap (λ n. n + 1) (c.version-number.ensures.count ∙ ap length (ap (λ (r : RecordedStore). r.state.commits) c.self.view_is)) in
    let graph : c.graph-graph.result.now.triples ≡ s.graph = ap (λ (d : NamedGraph). d.triples) c.graph-graph.ensures ∙ ap (λ (r : RecordedStore). r.state.graph) c.self.view_is in
    let names : c.graph-graph.result.now.terms ≡ s.named = ap (λ (d : NamedGraph). d.terms) c.graph-graph.ensures ∙ ap (λ (r : RecordedStore). r.state.named) c.self.view_is in
    let changed : c.deref-2.result.now ≡ differing s.graph (after s.graph x.net) =
    c.deref-2.ensures.value ∙ c.in_ok-changed.ensures ∙ ap (λ (ids : List Ids). with_each [] (graph_of c.graph-graph.result.now.terms ids)) c.deref.ensures.value
    ∙ ap (λ (ts : List Term). with_each [] (graph_of ts c.args.acceptance.now.changed.items)) names ∙ c.requires.changed.0 in
    record_is s.graph c.deref-2.result.now (version s) (c.version-number.result + 1) x c.in_ok-entry.entry c.recall_consistent.ensures.sound.ascending changed number
    (subst (λ (g : List Triple). IsRecordOf (c.version-number.result + 1) g c.deref-2.result.now x.staged c.in_ok-entry.entry) graph c.in_ok-entry.ensures)

pub returns-clause-readable : goal.returns-clause-readable
returns-clause-readable c =
    let s = c.args.self.now.state in
    let x = c.args.transaction.now in
    let number = ap (λ n. n + 1) (c.version-number.ensures.count ∙ ap length (ap (λ (r : RecordedStore). r.state.commits) c.self.view_is)) in
    let graph : c.graph-graph.result.now.triples ≡ s.graph = ap (λ (d : NamedGraph). d.triples) c.graph-graph.ensures ∙ ap (λ (r : RecordedStore). r.state.graph) c.self.view_is in
    let names : c.graph-graph.result.now.terms ≡ s.named = ap (λ (d : NamedGraph). d.terms) c.graph-graph.ensures ∙ ap (λ (r : RecordedStore). r.state.named) c.self.view_is in
    let changed : c.deref-2.result.now ≡ differing s.graph (after s.graph x.net) =
    c.deref-2.ensures.value ∙ c.in_ok-changed.ensures ∙ ap (λ (ids : List Ids). with_each [] (graph_of c.graph-graph.result.now.terms ids)) c.deref.ensures.value
    ∙ ap (λ (ts : List Term). with_each [] (graph_of ts c.args.acceptance.now.changed.items)) names ∙ c.requires.changed.0 in
    let ascending = c.recall_consistent.ensures.sound.ascending in
    record_read s.graph (version s) x c.in_ok-entry.entry ascending c.requires.loggable
    (record_is s.graph c.deref-2.result.now (version s) (c.version-number.result + 1) x c.in_ok-entry.entry ascending changed number (subst (λ (g : List Triple). IsRecordOf (c.version-number.result + 1) g c.deref-2.result.now x.staged c.in_ok-entry.entry) graph c.in_ok-entry.ensures))
