use Rattle.std.proofs.Common.{◌<◌, length, map, arith, sym, subst}
use Rattle.std.proofs.lemmas.List.{length-map}
use Rattle.std.proofs.lemmas.List.Elements.{All-push}
use Rattle.rdf_model.specs.declared.term.Term.{Term}
use Rattle.rdf_model.specs.Numbers.{term_at}
use Rattle.path_ast.specs.PathReadings.{IsNamed}
use Rattle.path_ast.proofs.ReadItems.{map_more, read_at}
use Rattle.shape_ast.specs.declared.constraint.Constraint.{Constraint}
use Rattle.shape_ast.specs.Readings.{HoldsOfConstraint, read_constraint}
use Rattle.shape_ast.proofs.parts.bind_constraints.Goals as goal

pub bind_constraint-requires : goal.bind_constraint-requires
bind_constraint-requires g c = subst (λ (k : Constraint Term). HoldsOfConstraint (IsNamed (g.N.Names.terms c.args.names.now)) c.args.shapes k) (sym c.constraint-item.is) (c.requires c.loop-constraint.constraint-index c.constraint-item.result c.loop-constraint-test.true)

pub loop-constraint-preserved : goal.loop-constraint-preserved
loop-constraint-preserved g c =
    let terms = g.N.Names.terms c.args.names.now in
    let all = c.args.constraints.now in
    let i = c.loop-constraint.constraint-index in
    let k = c.constraint-item.result in
    let within : i < length (map (read_constraint (λ (x : Term). x)) all) = omega (arith, c.loop-constraint-test.true, length-map all (read_constraint (λ (x : Term). x))) in
    rw c.in_ok-push.ensures.ok (
      All-push (HoldsOfConstraint (λ n. n < length terms) c.args.shapes) c.loop-constraint.bound c.in_ok-bind_constraint.field-0 c.loop-constraint.invariant.0 c.in_ok-bind_constraint.ensures.bound,
      map_more (read_constraint (term_at terms)) c.loop-constraint.bound (map (read_constraint (λ (x : Term). x)) all) i c.in_ok-bind_constraint.field-0 (read_constraint (λ (x : Term). x) k) c.loop-constraint.invariant.1 within (read_at (read_constraint (λ (x : Term). x)) all i k c.loop-constraint-test.true c.constraint-item.is) c.in_ok-bind_constraint.ensures.constraint,
    )
