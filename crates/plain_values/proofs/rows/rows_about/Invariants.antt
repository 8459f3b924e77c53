use Rattle.std.proofs.Common.{◌≡◌, take}
use Rattle.shape_model.specs.Components.{found_at}
use Rattle.plain_values.specs.Around.{row_at}
use Rattle.plain_terms.specs.Finds.{Finds, WithSome}
use Rattle.plain_values.proofs.rows.rows_about.Given as goal

abbrev pub invariant-loop-node : goal.invariant-loop-node
invariant-loop-node l = Finds (WithSome (take l.node-index l.nodes) (λ v r. r ≡ row_at l.at l.component l.parameter (found_at v))) l.rows.items
