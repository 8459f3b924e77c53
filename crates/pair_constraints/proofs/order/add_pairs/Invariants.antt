use Rattle.std.proofs.Common.{◌≡◌, ◌++◌, List, take}
use Rattle.shape_model.specs.declared.result_row.ResultRow.{ResultRow}
use Rattle.component_rows.specs.Sites.{site_row}
use Rattle.component_rows.specs.Listed.{Collects}
use Rattle.pair_constraints.specs.Focus.{PairsAt}
use Rattle.pair_constraints.proofs.order.add_pairs.Given as goal

abbrev pub invariant-loop-other : goal.invariant-loop-other
invariant-loop-other g l =
    (more : List ResultRow) × (l.rows.items ≡ l.initial.rows.items ++ more)
    × Collects (PairsAt l.site.terms (site_row l.component l.site) l.comparison (take l.other-index l.others) l.value) more
