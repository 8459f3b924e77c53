use Rattle.std.proofs.Common.{List, sym, subst}
use Rattle.std.specs.List.{All}
use Rattle.rdf_model.specs.declared.term.Term.{Term}
use Rattle.path_ast.specs.PathReadings.{IsNamed}
use Rattle.shape_ast.specs.declared.constraint.Constraint.{Constraint}
use Rattle.shape_ast.specs.Readings.{HoldsOfConstraint}
use Rattle.shape_ast.proofs.parts.bind_constraint.Goals as goal

pub bind_members-requires : goal.bind_members-requires
bind_members-requires g c =
    let named = IsNamed (g.N.Names.terms c.args.names.now) in
    let holds = subst (λ (k : Constraint Term). HoldsOfConstraint named c.args.shapes k) c.in-ByList.is c.requires in
    subst (λ (ts : List Term). All named ts) (sym c.as_slice.ensures) holds.1
