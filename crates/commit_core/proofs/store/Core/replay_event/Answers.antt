use Rattle.std.proofs.Common.{◌≡◌, ◌∙◌, ℕ, sym, ap, subst}
use Rattle.std.specs.Prelude.{MatchBool}
use Rattle.store_model.specs.declared.event.Action.{Action}
use Rattle.store_model.specs.declared.event.Reply.{Reply}
use Rattle.store_model.specs.Store.{RecordedStore}
use Rattle.event_history.specs.Replies.{newest_replied}
use Rattle.commit_core.specs.Replaying.{IsWrongNext, RunsOn}
use Rattle.commit_core.proofs.Replaying.{not_asked, replied}
use Rattle.commit_core.proofs.store.Core.replay_event.Goals as goal

pub returns-then-not-may_ask : goal.returns-then-not-may_ask
returns-then-not-may_ask g c = not_asked c.args.self.now c.args.event c.recall_consistent.ensures c.requires (sym c.may_ask.ensures ∙ c.if-not-may_ask.true)

pub returns : goal.returns
returns g c =
    let parts = c.into_parts-session.result in
    let old = c.args.self.now in
    let new = c.perform.new.self in
    let e : c.newest_has.result ≡ newest_replied new.history parts.2 = c.newest_has.ensures ∙ ap (λ (s : RecordedStore). newest_replied s.history parts.2) c.self.view_is in
    subst (λ (p : ℕ × Action × Reply). MatchBool c.newest_has.result (RunsOn old new (record { session = p.0; action = p.1; reply = p.2 })) (IsWrongNext old (record { session = p.0; action = p.1; reply = p.2 }))) c.into_parts-session.ensures
    (replied old new parts.0 parts.1 parts.2 c.newest_has.result c.recall_consistent.ensures c.requires c.in_ok-perform.ensures e)
