use Rattle.std.proofs.Common.{◌≡◌, ◌∙◌, ℕ, true, List, length, ap, refl, sym, subst}
use Rattle.store_model.specs.declared.commit.Accepted.{Accepted}
use Rattle.store_model.specs.declared.event.Action.TheVariants.{Commit}
use Rattle.store_model.specs.declared.event.Reply.TheVariants.{Stopped}
use Rattle.store_model.specs.Store.{RecordedStore, StepOf, again, version}
use Rattle.commit_core.specs.Consistent.{IsConsistent}
use Rattle.commit_core.proofs.Verdicts.{held}
use Rattle.commit_core.specs.Work.{is_no}
use Rattle.commit_core.proofs.Work.{commit_steps, no_held}
use Rattle.store_model.proofs.Steps.{stops}
use Rattle.commit_core.proofs.store.Core.commit_to_log.Goals as goal

pub refuse-requires : goal.refuse-requires
refuse-requires g c =
    let s = c.args.self.now.state in
    let x = c.args.checked.transaction in
    let commits : c.self.inside.commits.commits ≡ s.commits = ap (λ (r : RecordedStore). r.state.commits) c.self.view_is in
    let count : c.version-version.result ≡ version s = c.version-version.ensures.count ∙ ap length commits in
    let on : s.stopped ≡ true = sym (ap (λ (r : RecordedStore). r.state.stopped) c.self.view_is) ∙ c.if-self.true in
    rw c.into_transaction.ensures (subst (λ (n : ℕ). StepOf c.args.self.now.limits s c.args.session (Commit x) (Stopped n) s) (sym count) (stops c.args.self.now.limits s c.args.session x c.requires.opened c.requires.committable on))

pub commit_logged_by_plan-requires-clause-found : goal.commit_logged_by_plan-requires-clause-found
commit_logged_by_plan-requires-clause-found g c κs within =
    let x = c.args.checked.transaction in
    let commits : c.self.inside.commits.commits ≡ c.args.self.now.state.commits = ap (λ (s : RecordedStore). s.state.commits) c.self.view_is in
    let why = c.in-Ok-find_reasons.ensures.0 ∙ ap (λ (cs : List Accepted). again cs x.staged x.verdict) commits in
    held c.args.self.now x c.args.checked.pairs c.in-Ok-find_reasons.reasons.answer (is_no c.in-Ok-find_reasons.reasons.answer) (subst (λ (s : RecordedStore). IsConsistent s) c.self.view_is c.self.invariant.0) c.requires.verdict why (no_held c.in-Ok-find_reasons.reasons.answer)

pub returns-clause-steps : goal.returns-clause-steps
returns-clause-steps g c =
    let x = c.args.checked.transaction in
    let s = c.args.self.now.state in
    let commits : c.self.inside.commits.commits ≡ s.commits = ap (λ (r : RecordedStore). r.state.commits) c.self.view_is in
    let why = c.in-Ok-find_reasons.ensures.0 ∙ ap (λ (cs : List Accepted). again cs x.staged x.verdict) commits in
    commit_steps s x c.args.steps.now c.commit_logged_by_plan.new.steps c.in-Ok-find_reasons.reasons.answer why (is_no c.in-Ok-find_reasons.reasons.answer) refl c.commit_logged_by_plan.result c.commit_logged_by_plan.ensures.steps
