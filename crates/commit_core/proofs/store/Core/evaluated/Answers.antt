use Rattle.std.proofs.Common.{◌∙◌, ap, subst}
use Rattle.std.specs.Prelude.{false, IfOk, OnOk}
use Rattle.parallel_validate.specs.Counting.{GrowsByCount, IsTargetPair}
use Rattle.store_model.specs.declared.event.BlockMode.{BlockMode}
use Rattle.store_model.specs.Store.{RecordedStore}
use Rattle.data_graph.specs.DataGraphs.{NamedGraph}
use Rattle.commit_core.specs.Commits.{data_of}
use Rattle.commit_core.specs.Outcomes.{IsOutcome}
use Rattle.commit_core.specs.Work.{ResultSteps}
use Rattle.commit_core.proofs.Planning.{unstaged}
use Rattle.commit_core.proofs.Work.{changed_steps, on_ok, whole_steps}
use Rattle.commit_core.proofs.store.Core.evaluated.Goals as goal

pub changed-requires-clause-named : goal.changed-requires-clause-named
changed-requires-clause-named g c κs within = c.requires.committable.net

pub changed-requires-clause-next : goal.changed-requires-clause-next
changed-requires-clause-next g c κs within =
    c.requires.next ∙ unstaged (data_of c.args.self.now) c.args.checked.now.transaction c.in-None.is

pub returns-in-Some-clause-outcome : goal.returns-in-Some-clause-outcome
returns-in-Some-clause-outcome g c = subst (λ (m : BlockMode). IfOk c.whole.result (IsOutcome m c.args.next)) (ap (λ (s : RecordedStore). s.limits.mode) c.self.view_is) c.whole.ensures.outcome

pub returns-in-Some-clause-steps : goal.returns-in-Some-clause-steps
returns-in-Some-clause-steps g c =
    let x = c.args.checked.now.transaction in
    let s = c.args.self.now.state in
    let old = c.args.steps.now in
    let new = c.whole.new.steps in
    let count = subst (λ (d : NamedGraph). OnOk c.whole.result (GrowsByCount (IsTargetPair d.triples d.shapes) old new)) c.requires.next c.whole.ensures.steps in
    on_ok c.whole.result _ (ResultSteps false s x old new) (whole_steps s x old new _ c.in-Some.is) count

pub returns-in-None-clause-steps : goal.returns-in-None-clause-steps
returns-in-None-clause-steps g c =
    let x = c.args.checked.now.transaction in
    let s = c.args.self.now.state in
    let old = c.args.steps.now in
    let new = c.changed.new.steps in
    on_ok c.changed.result _ (ResultSteps false s x old new) (changed_steps s x old new c.in-None.is) c.changed.ensures.steps
