use Rattle.std.proofs.Common.{List, subst}
use Rattle.std.specs.Prelude.{IfOk, MatchOption}
use Rattle.rdf_model.specs.declared.term.Term.{Term}
use Rattle.shape_model.specs.ShapeSyntax.{ListOf}
use Rattle.shape_reader.specs.Declarations.{Declaration}
use Rattle.shape_reader.proofs.shape_node.ShapeNode.members.Goals as goal

pub returns : goal.returns
returns c = subst (λ (d : Declaration). IfOk c.list_members.result (λ found. MatchOption found ((ms : List Term) → ListOf d.graph c.args.head.now ms → ⊥) (λ ms. ListOf d.graph c.args.head.now ms))) c.self.view_is c.list_members.ensures
