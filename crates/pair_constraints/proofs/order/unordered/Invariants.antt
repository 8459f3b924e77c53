use Rattle.std.proofs.Common.{take}
use Rattle.component_rows.specs.Sites.{site_row}
use Rattle.component_rows.specs.Listed.{Collects}
use Rattle.pair_constraints.specs.Focus.{Pairs}
use Rattle.pair_constraints.proofs.order.unordered.Given as goal

abbrev pub invariant-loop-value : goal.invariant-loop-value
invariant-loop-value g l =
    Collects (Pairs l.site.terms (site_row l.component l.site) l.comparison (take l.value-index l.values) l.others) l.rows.items
