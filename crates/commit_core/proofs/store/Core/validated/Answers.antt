use Rattle.std.proofs.Common.{◌∙◌, Bool, List, refl, sym, subst}
use Rattle.std.specs.Prelude.{MatchBool, OnOk}
use Rattle.kept_rows.specs.declared.pair_rows.PairRows.{PairRows}
use Rattle.kept_rows.specs.Laws.{ChecksPairs}
use Rattle.commit_core.specs.Commits.{data_of}
use Rattle.commit_core.specs.Verdicts.{IsHeld}
use Rattle.commit_core.specs.Work.{ResultSteps}
use Rattle.commit_core.proofs.Planning.{unstaged}
use Rattle.commit_core.proofs.store.Core.validated.Goals as goal

pub merged-requires : goal.merged-requires
merged-requires g c =
    let s = c.args.self.now.state in
    let x = c.args.checked.now.transaction in
    let pairs = c.args.checked.now.pairs in
    let held : IsHeld c.args.self.now x pairs = subst (λ (b : Bool). MatchBool b (IsHeld c.args.self.now x pairs) (Unit {0})) c.if-held.true c.requires.found in
    let next = c.requires.next ∙ unstaged (data_of c.args.self.now) x held.unstaged in
    (x.net, next, subst (λ (ps : List PairRows). ChecksPairs s.named s.graph s.shapes x.net ps) (sym c.as_slice.ensures) held.checks)

pub returns-then-held-clause-steps : goal.returns-then-held-clause-steps
returns-then-held-clause-steps g c =
    let s = c.args.self.now.state in
    let x = c.args.checked.now.transaction in
    subst (λ (b : Bool). ResultSteps b s x c.args.steps.now c.args.steps.now) (sym c.if-held.true) refl

pub returns-clause-steps : goal.returns-clause-steps
returns-clause-steps g c =
    let s = c.args.self.now.state in
    let x = c.args.checked.now.transaction in
    subst (λ (b : Bool). OnOk c.evaluated.result (ResultSteps b s x c.args.steps.now c.evaluated.new.steps)) (sym c.if-held.false) c.evaluated.ensures.steps
