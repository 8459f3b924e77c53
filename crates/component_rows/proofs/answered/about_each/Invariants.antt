use Rattle.std.proofs.Common.{◌≡◌, take}
use Rattle.rdf_model.specs.Numbers.{term_at}
use Rattle.shape_model.specs.Components.{found_at}
use Rattle.component_rows.specs.Listed.{Collects}
use Rattle.component_rows.specs.Sites.{site_row}
use Rattle.component_rows.proofs.Collecting.{FromSome}
use Rattle.component_rows.proofs.answered.about_each.Given as goal

abbrev pub invariant-loop-node : goal.invariant-loop-node
invariant-loop-node g l =
    Collects (FromSome (take l.node-index l.nodes) (λ n r. r ≡ site_row l.component l.site (found_at (term_at l.site.terms n)))) l.rows.items
