use Rattle.focus_affected.specs.Index.{IsBefore, IsKindAt, ListsRows}
use Rattle.focus_affected.proofs.index.push_plans.Given as goal

-- the rows of the plans so far
abbrev pub invariant-loop-plan : goal.invariant-loop-plan
invariant-loop-plan l = ListsRows (λ at kind. IsBefore l.plan 0 at × IsKindAt l.plans at kind) l.rows.items l.any.items
