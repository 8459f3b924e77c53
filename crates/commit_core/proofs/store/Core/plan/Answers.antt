use Rattle.std.proofs.Common.{rules, ◌∙◌, ap, subst, sym}
use Rattle.store_model.specs.Store.{RecordedStore}
use Rattle.data_graph.specs.DataGraphs.{AreNamedChanges, NamedGraph, with_changes}
use Rattle.commit_core.specs.Commits.{AreChanged, AreNumberedChanges, data_of}
use Rattle.commit_core.proofs.NamedTerms.{net_named}
use Rattle.commit_core.proofs.Planning.{judged_result}
use Rattle.commit_core.proofs.store.Core.plan.Goals as goal

pub after_with_changed-requires : goal.after_with_changed-requires
after_with_changed-requires g c =
    let net = c.args.checked.now.transaction.net in
    let named = subst (λ (s : RecordedStore). AreNamedChanges s.state.named net) (sym c.self.view_is) (net_named _ _ c.requires.committable.net) in
    subst (λ (d : NamedGraph). AreNamedChanges d.terms net) (sym c.graph.ensures) named

pub judge-requires-clause-next : goal.judge-requires-clause-next
judge-requires-clause-next g c κs within =
    let net = c.args.checked.now.transaction.net in
    c.in_ok-next.ensures.next ∙ ap (λ (d : NamedGraph). with_changes d net) c.graph.ensures ∙ ap (λ (s : RecordedStore). with_changes (data_of s) net) c.self.view_is

pub judge-requires-clause-changed : goal.judge-requires-clause-changed
judge-requires-clause-changed g c κs within =
    let changed = c.in_ok-next.changed.items in
    let net = c.args.checked.now.transaction.net in
    let told = subst (λ (d : NamedGraph). AreChanged d net changed) c.graph.ensures c.in_ok-next.ensures.changed in
    subst (λ (s : RecordedStore). AreChanged (data_of s) net changed) c.self.view_is told

pub judge-requires-clause-net : goal.judge-requires-clause-net
judge-requires-clause-net g c κs within =
    let numbered = c.in_ok-next.net.items in
    let net = c.args.checked.now.transaction.net in
    let told = subst (λ (d : NamedGraph). AreNumberedChanges d net numbered) c.graph.ensures c.in_ok-next.ensures.net in
    subst (λ (s : RecordedStore). AreNumberedChanges (data_of s) net numbered) c.self.view_is told

pub returns-clause-plan : goal.returns-clause-plan
returns-clause-plan g c = judged_result c.args.self.now.limits (data_of c.args.self.now) c.args.self.now.state.commits c.args.checked.now.transaction _ (search rules, search rules) c.judge.ensures.judged
