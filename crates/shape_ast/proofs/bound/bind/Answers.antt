use Rattle.std.proofs.Common.{◌∙◌, List, length, ap, sym, subst}
use Rattle.std.specs.List.{All}
use Rattle.std.proofs.lemmas.List.{take_all}
use Rattle.rdf_model.specs.declared.term.Term.{Term}
use Rattle.path_ast.specs.PathReadings.{IsNamed}
use Rattle.shape_ast.specs.declared.shape.Shape.{Shape}
use Rattle.shape_ast.specs.Readings.{HoldsOfShape, read_shapes}
use Rattle.shape_ast.specs.Standing.{AreBuilt}
use Rattle.shape_ast.specs.Binding.{AreBoundFrom}
use Rattle.shape_ast.proofs.Alike.{all_built, all_same, are_bound, bound_more}
use Rattle.shape_ast.proofs.bound.bind.Goals as goal

pub bind_shape-requires : goal.bind_shape-requires
bind_shape-requires g c =
    let all = c.as_slice-all.result.now in
    let holds = HoldsOfShape (IsNamed (g.N.Names.terms c.args.names.now)) (length all) in
    let named = subst (λ (ss : List (Shape Term)). All (HoldsOfShape (IsNamed (g.N.Names.terms c.args.names.now)) (length ss)) ss) (sym c.as_slice-all.ensures) c.requires in
    subst (λ (s : Shape Term). holds s) (sym c.shape-item.is) (named c.loop-shape.shape-index c.shape-item.result c.loop-shape-test.true)

pub loop-shape-preserved : goal.loop-shape-preserved
loop-shape-preserved g c =
    let terms = g.N.Names.terms c.args.names.now in
    let all = c.as_slice-all.result.now in
    rw c.in_ok-push.ensures.ok
    (bound_more terms (length all) all c.loop-shape.shape-index c.loop-shape.bound c.shape-item.result c.in_ok-bind_shape.field-0 c.loop-shape-test.true c.shape-item.is c.loop-shape.invariant c.in_ok-bind_shape.ensures)

whole : (g : _) (c : goal.After-loop-shape g) → AreBoundFrom (g.N.Names.terms c.args.names.now) (length c.as_slice-all.result.now) c.as_slice-all.result.now c.loop-shape.bound
whole g c =
    let terms = g.N.Names.terms c.args.names.now in
    let all = c.as_slice-all.result.now in
    subst (λ (ss : List (Shape Term)). AreBoundFrom terms (length all) ss c.loop-shape.bound) (take_all c.loop-shape.shape-index all c.loop-shape-test.false) c.loop-shape.invariant

pub returns-clause-bound : goal.returns-clause-bound
returns-clause-bound g c = are_bound (g.N.Names.terms c.args.names.now) c.as_slice-all.result.now c.loop-shape.bound (whole g c)

pub returns-clause-same : goal.returns-clause-same
returns-clause-same g c = all_same (g.N.Names.terms c.args.names.now) (length c.as_slice-all.result.now) c.as_slice-all.result.now c.loop-shape.bound (whole g c) ∙ ap read_shapes c.as_slice-all.ensures

pub returns-clause-built : goal.returns-clause-built
returns-clause-built g c = λ built.
    all_built (g.N.Names.terms c.args.names.now) (length c.as_slice-all.result.now) c.as_slice-all.result.now c.loop-shape.bound (whole g c)
    (subst (λ (ss : List (Shape Term)). AreBuilt (λ (t : Term). t) ss) (sym c.as_slice-all.ensures) built)
