use Rattle.std.proofs.Common.{◌≡◌, ◌∙◌, List, ap, sym, subst}
use Rattle.parallel_validate.specs.Counting.{GrowsByCount}
use Rattle.parallel_validate.specs.Verdicts.{IsEvaluated}
use Rattle.store_model.specs.Store.{RecordedStore}
use Rattle.kept_rows.specs.declared.pair_rows.PairRows.{PairRows}
use Rattle.kept_rows.specs.Laws.{ChecksPairs}
use Rattle.data_graph.specs.DataGraphs.{AreNamedChanges, NamedGraph, with_changes}
use Rattle.commit_core.specs.Commits.{data_of}
use Rattle.commit_core.proofs.NamedTerms.{net_named}
use Rattle.commit_core.proofs.store.Core.changed.Goals as goal

pub pairs_after-requires-clause-net : goal.pairs_after-requires-clause-net
pairs_after-requires-clause-net g c κs within =
    let net = c.args.net.now in
    let named = subst (λ (s : RecordedStore). AreNamedChanges s.state.named net) (sym c.self.view_is) (net_named _ _ c.requires.named) in
    subst (λ (d : NamedGraph). AreNamedChanges d.terms net) (sym c.graph-graph.ensures) named

pub pairs_after-requires-clause-next : goal.pairs_after-requires-clause-next
pairs_after-requires-clause-next g c κs within =
    let net = c.args.net.now in
    let own = c.requires.next ∙ ap (λ (s : RecordedStore). with_changes (data_of s) net) (sym c.self.view_is) in
    subst (λ (d : NamedGraph). c.args.next ≡ with_changes d net) (sym c.graph-graph.ensures) own

pub merged-requires : goal.merged-requires
merged-requires g c =
    let net = c.args.net.now in
    let inside = subst (λ (d : NamedGraph). ChecksPairs d.terms d.triples d.shapes net c.in_ok-pairs.pairs) c.graph-graph.ensures c.in_ok-pairs.ensures.checks in
    let checks = subst (λ (s : RecordedStore). ChecksPairs s.state.named s.state.graph s.state.shapes net c.in_ok-pairs.pairs) c.self.view_is inside in
    let s' = c.args.self.now.state in
    (net, c.requires.next, subst (λ (ps : List PairRows). ChecksPairs s'.named s'.graph s'.shapes net ps) (sym c.as_slice.ensures) checks)

pub returns-clause-steps : goal.returns-clause-steps
returns-clause-steps g c =
    let net = c.args.net.now in
    let own = subst (λ (d : NamedGraph). GrowsByCount (IsEvaluated d.triples d.shapes net) c.args.steps.now c.pairs_after.new.steps) c.graph-graph.ensures c.in_ok-pairs.ensures.steps in
    subst (λ (s : RecordedStore). GrowsByCount (IsEvaluated s.state.graph s.state.shapes net) c.args.steps.now c.pairs_after.new.steps) c.self.view_is own
