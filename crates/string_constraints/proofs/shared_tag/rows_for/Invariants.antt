use Rattle.std.proofs.Common.{◌≡◌, List, ℕ, ◌++◌, length}
use Rattle.component_rows.specs.Sites.{site_row}
use Rattle.shape_model.specs.declared.component.Component.TheVariants as components
use Rattle.component_rows.specs.Listed.{Collects}
use Rattle.component_rows.proofs.Collecting.{FromSome}
use Rattle.string_constraints.specs.Languages.{found_for}
use Rattle.string_constraints.proofs.shared_tag.rows_for.Given as goal

abbrev pub invariant-loop-tag : goal.invariant-loop-tag
invariant-loop-tag g l =
    (done : List (List ℕ)) × (l.fn.tags.keys ≡ done ++ l.rest.keys)
    × Collects (FromSome done (λ t r. r ≡ site_row components.UniqueLang l.site (found_for t))) l.rows.items

abbrev pub decreases-loop-tag : goal.decreases-loop-tag
decreases-loop-tag g l = length l.rest.keys
