use Rattle.std.proofs.Common.{◌≡◌, List, [], get_or, subst, sym}
use Rattle.std.specs.Prelude.{◌↔◌, IsTrue}
use Rattle.rdf_model.specs.declared.term.Term.{Term}
use Rattle.shape_ast.specs.declared.shape.Shape.{Shape}
use Rattle.shape_plans.proofs.Standing.{declares_is}
use Rattle.shape_plans.proofs.plans.declares_target.Goals as goal

pub returns : goal.returns
returns c =
    let s = c.index-as_slice-place.result in
    let is : s ≡ get_or c.args.shapes.now.shapes c.args.place s = subst (λ (all : List (Shape Term)). s ≡ get_or all c.args.place s) c.as_slice.ensures c.index-as_slice-place.is in
    declares_is c.args.shapes.now.shapes c.args.place s c.is_empty.result c.requires is
    (subst (λ (shape : Shape Term). IsTrue c.is_empty.result ↔ (shape.targets ≡ [])) (sym c.index-as_slice-place.is) c.is_empty.ensures)
