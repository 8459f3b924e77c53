use Rattle.std.proofs.Common.{◌≡◌, List, true, rules, subst}
use Rattle.std.specs.List.{All}
use Rattle.rdf_model.specs.declared.term.Term.{Term}
use Rattle.path_ast.specs.PathReadings.{IsNamed}
use Rattle.shape_ast.specs.declared.constraint.Constraint.{Constraint}
use Rattle.shape_ast.specs.Readings.{HoldsOfConstraint}
use Rattle.constraint_tests.proofs.evaluations.shapes_of.Goals as goal

pub returns-clause-named : goal.returns-clause-named
returns-clause-named g c =
    let names = c.args.names.now in
    let node : c.is_named.result ≡ true = first_of (search rules, cc) in
    let each : c.are_of_named.result ≡ true = first_of (search rules, cc) in
    let all = subst (λ (cs : List (Constraint Term)). All (HoldsOfConstraint (IsNamed names) 1) cs) c.as_slice.ensures (c.are_of_named.ensures each) in
    c.in_ok-node_shape.ensures.named names (c.is_named.ensures node) all
