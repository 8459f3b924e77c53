use Rattle.std.proofs.Common.{take}
use Rattle.plain_terms.specs.Finds.{Finds, WithSome}
use Rattle.plain_components.specs.Rows.{ComponentAt}
use Rattle.plain_components.proofs.component.rows_of_components.Given as goal

abbrev pub invariant-loop-component : goal.invariant-loop-component
invariant-loop-component l = Finds (WithSome (take l.component-index l.list) (ComponentAt l.at)) l.rows.items
