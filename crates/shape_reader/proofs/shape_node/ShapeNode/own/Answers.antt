use Rattle.std.proofs.Common.{◌≡◌, subst}
use Rattle.std.specs.Prelude.{◌↔◌}
use Rattle.std.specs.List.{Contains}
use Rattle.rdf_model.specs.declared.triple.Triple.{Triple}
use Rattle.shape_reader.specs.Declarations.{Declaration}
use Rattle.shape_reader.proofs.shape_node.ShapeNode.own.Goals as goal

pub returns-clause-members : goal.returns-clause-members
returns-clause-members c = subst (λ (d : Declaration). (t : Triple) → Contains c.self.inside.own.now t ↔ (Contains d.graph t × (t.subject ≡ d.node))) c.self.view_is c.self.invariant.members
