use Rattle.std.proofs.Common.{◌∙◌, List, [], ◌∷◌, ◌++◌, sym, ap, length, subst}
use Rattle.std.specs.List.{AllByRecursion}
use Rattle.rdf_model.specs.declared.term.Term.{Term}
use Rattle.rdf_model.specs.Graphs.{with_each}
use Rattle.rdf_model.specs.Numbers.{AreNumbered, graph_of}
use Rattle.store_model.specs.declared.event.Event.{Event}
use Rattle.store_model.specs.Store.{RecordedStore}
use Rattle.triple_index.specs.Changes.{IsNumberedChange}
use Rattle.event_history.specs.Named.{IsBeginning, net_at}
use Rattle.snapshot_store.specs.Named.{NamedCommits}
use Rattle.commit_core.specs.Verdicts.{AreReasons}
use Rattle.commit_core.proofs.Accepting.{told_commit}
use Rattle.commit_core.proofs.Consistency.{at_fields, consistent_accepted, names_kept, takes_accepted}
use Rattle.commit_core.proofs.NamedTerms.{begins_same}
use Rattle.commit_core.proofs.store.Core.accept.Goals as goal

pub invariant_of-self : goal.invariant_of-self
invariant_of-self c = rw (c.room_for.ensures.same.0, c.room_for.ensures.same.1) c.self.invariant

pub push_reserved-requires-clause-more : goal.push_reserved-requires-clause-more
push_reserved-requires-clause-more c = rw c.room_for.ensures.same.1 (subst (λ (ts : List Term). IsBeginning c.self.inside.commits.names ts) (sym c.in-Ok.ensures.names) c.self.invariant.2)

pub push_reserved-requires-clause-numbered : goal.push_reserved-requires-clause-numbered
push_reserved-requires-clause-numbered c =
    let names = c.in-Ok.ensures.names ∙ ap (λ (s : RecordedStore). s.state.named) c.self.view_is in
    rw c.into_parts-graph.ensures (subst (λ (ts : List Term). AreNumbered ts c.args.acceptance.changed.items) (sym names) c.requires.plan.1.2.1)

pub push_accepted-requires : goal.push_accepted-requires
push_accepted-requires c =
    let names = c.self.invariant.1 ∙ ap (λ (s : RecordedStore). s.state.named) c.self.view_is in
    rw (c.from_vec.ensures, c.into_parts-graph.ensures) (subst (λ (ts : List Term). AllByRecursion (IsNumberedChange ts) c.args.acceptance.net.items) (sym names) c.requires.plan.1.4.1)

pub invariant_of-self-2 : goal.invariant_of-self-2
invariant_of-self-2 c =
    let p = c.requires.plan in
    let why = at_fields _ _ (λ s. AreReasons s.state.commits c.args.checked.transaction c.args.reasons) c.self.view_is c.requires.reasons in
    let names = c.in-Ok.ensures.names ∙ ap (λ (s : RecordedStore). s.state.named) c.self.view_is in
    let changed = ap (λ (ts : List Term). with_each [] (graph_of ts c.args.acceptance.changed.items)) names ∙ p.1.2.0 in
    let count = rw (c.into_parts-graph.ensures, c.room_for.ensures.same.0) at (c.version-number.ensures.count ∙ ap (λ (k : NamedCommits). length k.commits) c.push_reserved.ensures) in
    let named = c.self.invariant.1 ∙ ap (λ (s : RecordedStore). s.state.named) c.self.view_is in
    let net = ap (net_at c.self.inside.history.names) (rw c.into_parts-graph.ensures at c.from_vec.ensures) ∙ ap (λ (ts : List Term). net_at ts c.args.acceptance.net.items) named ∙ p.1.4.0 in
    let told = told_commit c.args.session c.args.checked.transaction _ _ c.self.inside.history.names _ c.without_changes.ensures net in
    let history = c.push_accepted.ensures ∙ ap (λ (e : Event). record { events = c.self.inside.history.events ++ e ∷ []; names = c.self.inside.history.names }) told in
    rw (history, c.push_reserved.ensures, c.room_for.ensures.same.0, c.into_parts-graph.ensures, c.into_parts-again.ensures) (
      consistent_accepted _ c.self.inside.graph c.args.acceptance.graph _ _ _ _ _ _ _ _ _ _ _ _ c.self.invariant.0 c.self.view_is c.requires.running c.requires.opened c.requires.committable (why.1 ∙ why.0) p.0 p.1.0 p.1.1 changed p.1.3 count,
      names_kept _ _ _ c.args.checked.transaction _ c.self.view_is c.self.invariant.1 p.1.1,
      begins_same _ _ (sym (names_kept _ _ _ c.args.checked.transaction _ c.self.view_is c.in-Ok.ensures.names p.1.1)),
    )

pub returns-clause-answer : goal.returns-clause-answer
returns-clause-answer c =
    let p = c.requires.plan in
    let why = at_fields _ _ (λ s. AreReasons s.state.commits c.args.checked.transaction c.args.reasons) c.self.view_is c.requires.reasons in
    let names = c.in-Ok.ensures.names ∙ ap (λ (s : RecordedStore). s.state.named) c.self.view_is in
    let changed = ap (λ (ts : List Term). with_each [] (graph_of ts c.args.acceptance.changed.items)) names ∙ p.1.2.0 in
    let count = rw (c.into_parts-graph.ensures, c.room_for.ensures.same.0) at (c.version-number.ensures.count ∙ ap (λ (k : NamedCommits). length k.commits) c.push_reserved.ensures) in
    let named = c.self.invariant.1 ∙ ap (λ (s : RecordedStore). s.state.named) c.self.view_is in
    let net = ap (net_at c.self.inside.history.names) (rw c.into_parts-graph.ensures at c.from_vec.ensures) ∙ ap (λ (ts : List Term). net_at ts c.args.acceptance.net.items) named ∙ p.1.4.0 in
    let told = told_commit c.args.session c.args.checked.transaction _ _ c.self.inside.history.names _ c.without_changes.ensures net in
    let history = c.push_accepted.ensures ∙ ap (λ (e : Event). record { events = c.self.inside.history.events ++ e ∷ []; names = c.self.inside.history.names }) told in
    rw (history, c.push_reserved.ensures, c.room_for.ensures.same.0, c.into_parts-graph.ensures, c.into_parts-again.ensures, sym why.1) (
    takes_accepted _ c.self.inside.graph c.args.acceptance.graph _ _ _ _ _ _ _ _ _ _ _ _ c.self.invariant.0 c.self.view_is c.requires.running c.requires.opened c.requires.committable (why.1 ∙ why.0) p.0 p.1.0 p.1.1 changed p.1.3 count)
