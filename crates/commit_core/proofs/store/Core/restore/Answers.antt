use Rattle.std.proofs.Common.{◌∙◌, Bool, refl, subst, sym, ap}
use Rattle.term_dict.specs.Names.{Named}
use Rattle.data_graph.specs.DataGraphs.{NamedGraph}
use Rattle.commit_core.specs.Outcomes.{TellsBlocking}
use Rattle.commit_core.proofs.RecordedTriples.{numbers_within}
use Rattle.commit_core.proofs.RestoredParts.{blocks, core_consistent, core_restored}
use Rattle.commit_core.proofs.NamedTerms.{begins_same}
use Rattle.commit_core.proofs.store.Core.restore.Goals as goal

pub graph_within-requires-clause-named : goal.graph_within-requires-clause-named
graph_within-requires-clause-named g c = rw c.deref-2.ensures.value (rw c.deref.ensures.value at c.in_ok-named.ensures)

pub graph_within-requires-clause-shapes : goal.graph_within-requires-clause-shapes
graph_within-requires-clause-shapes g c = rw c.deref-2.ensures.value c.requires.shapes

pub commits_of-requires-clause-numbers : goal.commits_of-requires-clause-numbers
commits_of-requires-clause-numbers g c =
    let named = rw c.deref.ensures.value at c.in_ok-named.ensures in
    let within = rw c.deref-2.ensures.value at c.in_ok-graph.ensures in
    let terms = ap (λ (d : Named). d.terms) c.names.ensures ∙ ap (λ (x : NamedGraph). x.terms) (c.into_graph-graph.ensures ∙ c.in_ok-outcome.ensures.outcome.0) in
    rw c.deref-3.ensures.value (numbers_within c.args.limits c.args.records.items c.in_ok-named.named c.in_ok-graph.graph c.names.result.now.terms c.as_slice.result.now named within terms c.as_slice.ensures)

pub returns-then-blocks-clause-store : goal.returns-then-blocks-clause-store
returns-then-blocks-clause-store g c =
    let within = rw c.deref-2.ensures.value at c.in_ok-graph.ensures in
    let graph = c.in_ok-graph.graph in
    let some = subst (λ (b : Bool). TellsBlocking c.args.limits.mode graph.triples graph.shapes b) c.if-blocks.true c.in_ok-outcome.ensures.outcome.1 in
    blocks c.args.limits c.args.records.items graph within some

pub invariant_of-result : goal.invariant_of-result
invariant_of-result g c =
    let named = rw c.deref.ensures.value at c.in_ok-named.ensures in
    let within = rw c.deref-2.ensures.value at c.in_ok-graph.ensures in
    let commits = rw c.deref-3.ensures.value at c.in_ok-commits.ensures in
    let graph = c.in_ok-graph.graph in
    let outcome = c.in_ok-outcome.ensures.outcome in
    let none = subst (λ (b : Bool). TellsBlocking c.args.limits.mode graph.triples graph.shapes b) c.if-blocks.false outcome.1 in
    let names = sym (commits.1 ∙ ap (λ (d : Named). d.terms) c.names.ensures) in
    rw c.in_ok-history.ensures (core_consistent c.args.limits c.args.records.items graph within c.into_graph-graph.result c.in_ok-commits.commits.commits c.into_given.result (c.into_graph-graph.ensures ∙ outcome.0) commits.0 (c.into_given.ensures ∙ named.given_is) none c.requires.small, refl, begins_same _ _ names)

pub returns-clause-store : goal.returns-clause-store
returns-clause-store g c =
    let named = rw c.deref.ensures.value at c.in_ok-named.ensures in
    let within = rw c.deref-2.ensures.value at c.in_ok-graph.ensures in
    let commits = rw c.deref-3.ensures.value at c.in_ok-commits.ensures in
    let graph = c.in_ok-graph.graph in
    let outcome = c.in_ok-outcome.ensures.outcome in
    let none = subst (λ (b : Bool). TellsBlocking c.args.limits.mode graph.triples graph.shapes b) c.if-blocks.false outcome.1 in
    rw c.in_ok-history.ensures (core_restored c.args.limits c.args.records.items graph within c.into_graph-graph.result c.in_ok-commits.commits.commits c.into_given.result (c.into_graph-graph.ensures ∙ outcome.0) commits.0 (c.into_given.ensures ∙ named.given_is) none)
