use Rattle.std.proofs.Common.{◌≡◌, ◌++◌, List, take}
use Rattle.shape_model.specs.declared.component.Component.TheVariants as components
use Rattle.shape_model.specs.declared.result_row.ResultRow.{ResultRow}
use Rattle.component_rows.specs.Sites.{site_row}
use Rattle.component_rows.specs.Listed.{Collects}
use Rattle.value_constraints.specs.Closing.{ForbiddenAt}
use Rattle.value_constraints.proofs.closed_shape.add_edges.Given as goal

abbrev pub invariant-loop-edge : goal.invariant-loop-edge
invariant-loop-edge g l = let terms = l.site.terms in
    (more : List ResultRow) × (l.rows.items ≡ l.initial.rows.items ++ more)
    × Collects (ForbiddenAt terms (site_row components.Closed l.site) l.allowed l.value (take l.edge-index l.edges)) more
