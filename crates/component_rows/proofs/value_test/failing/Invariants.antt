use Rattle.std.proofs.Common.{◌≡◌, take}
use Rattle.rdf_model.specs.Numbers.{term_at}
use Rattle.shape_model.specs.Components.{found_at}
use Rattle.component_rows.specs.Listed.{Collects}
use Rattle.component_rows.specs.Sites.{site_row}
use Rattle.component_rows.proofs.Collecting.{FromSome}
use Rattle.component_rows.proofs.value_test.failing.Given as goal

abbrev pub invariant-loop-value : goal.invariant-loop-value
invariant-loop-value g l =
    Collects (FromSome (take l.value-index l.values) (λ n r. (g.T.ValueTest.accepts l.test (term_at l.site.terms n) → ⊥)
    × (r ≡ site_row l.component l.site (found_at (term_at l.site.terms n))))) l.rows.items
