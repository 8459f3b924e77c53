use Rattle.std.proofs.Common.{◌≡◌, take}
use Rattle.plain_terms.specs.Finds.{Finds, WithSome}
use Rattle.shape_model.specs.Components.{found_beside}
use Rattle.plain_values.specs.Around.{row_at}
use Rattle.plain_components.proofs.pairs.rows_beside.Given as goal

abbrev pub invariant-loop-other : goal.invariant-loop-other
invariant-loop-other l = Finds (WithSome (take l.other-index l.others) (λ w r. r ≡ row_at l.at l.component l.parameter (found_beside l.value w))) l.rows.items
