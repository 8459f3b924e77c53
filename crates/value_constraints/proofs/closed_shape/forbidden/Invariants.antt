use Rattle.std.proofs.Common.{take}
use Rattle.shape_model.specs.declared.component.Component.TheVariants as components
use Rattle.component_rows.specs.Listed.{Collects}
use Rattle.component_rows.specs.Sites.{site_row}
use Rattle.value_constraints.specs.Closing.{ForbiddenOfSome}
use Rattle.value_constraints.proofs.closed_shape.forbidden.Given as goal

abbrev pub invariant-loop-value : goal.invariant-loop-value
invariant-loop-value g l =
    Collects (ForbiddenOfSome l.site.terms (g.R.Triples.triples l.graph) (site_row components.Closed l.site) l.allowed (take l.value-index l.values)) l.rows.items
