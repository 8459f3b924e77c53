use Rattle.focus_affected.specs.Index.{IsBefore, IsKindAt, ListsRows}
use Rattle.focus_affected.proofs.index.push_plan.Given as goal

-- the rows of the plan so far
abbrev pub invariant-loop-look : goal.invariant-loop-look
invariant-loop-look l = ListsRows (λ at kind. IsBefore l.plan 0 at × IsKindAt l.plans at kind) l.fn.rows.items l.fn.any.items
    → ListsRows (λ at kind. IsBefore l.plan l.look at × IsKindAt l.plans at kind) l.rows.items l.any.items
