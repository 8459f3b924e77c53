use Rattle.std.proofs.Common.{◌≡◌, take}
use Rattle.std.specs.List.{Contains}
use Rattle.shape_model.specs.declared.component.Component.{Component}
use Rattle.shape_model.specs.Rows.{component_number}
use Rattle.evidence_reader.proofs.components.with_number.Given as goal

abbrev pub invariant-loop-component : goal.invariant-loop-component
invariant-loop-component l = (c : Component) → Contains (take l.component-index l.component-items) c → component_number c ≡ l.number → ⊥
