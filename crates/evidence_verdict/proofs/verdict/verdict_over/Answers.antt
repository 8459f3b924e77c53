use Rattle.std.proofs.Common.{◌≡◌, List, sym, subst}
use Rattle.rdf_model.specs.declared.term.Term.{Term}
use Rattle.rdf_model.specs.Numbers.{term_at}
use Rattle.shape_ast.specs.Readings.{AreBound, AreNamed, ReadShape, named_shapes, read_shapes}
use Rattle.shape_ast.specs.Standing.{AreBuilt, StandFor}
use Rattle.parallel_validate.proofs.Bounded.{well_acyclic, well_shallow}
use Rattle.parallel_validate.proofs.Naming.{are_named}
use Rattle.result_evidence.specs.Standing.{AreOf}
use Rattle.evidence_verdict.proofs.verdict.verdict_over.Goals as goal

pub bind-requires : goal.bind-requires
bind-requires g c =
    let shapes = c.shapes.result.now.shapes in
    subst (λ (terms : List Term). AreNamed terms shapes) (sym c.names.ensures) (are_named c.args.data.now.terms c.args.shapes.now shapes c.shapes.ensures.shapes.within c.requires.shapes)

pub verify-requires-clause-bound : goal.verify-requires-clause-bound
verify-requires-clause-bound g c = subst (λ (terms : List Term). AreBound terms c.in_ok-bound.bound.shapes) c.names.ensures c.in_ok-bound.ensures.bound

pub verify-requires-clause-built : goal.verify-requires-clause-built
verify-requires-clause-built g c = subst (λ (terms : List Term). AreBuilt (term_at terms) c.in_ok-bound.bound.shapes) c.names.ensures (c.in_ok-bound.ensures.built c.shapes.ensures.shapes.built)

pub verify-requires-clause-shapes : goal.verify-requires-clause-shapes
verify-requires-clause-shapes g c =
    let s = c.args.shapes.now in
    let well = c.shapes.ensures.well_formed in
    let shapes = c.in_ok-bound.bound.shapes in
    let same = subst (λ (ts : List Term). named_shapes ts shapes ≡ read_shapes c.shapes.result.now.shapes) c.names.ensures c.in_ok-bound.ensures.same in
    let of : AreOf c.args.data.now.terms shapes s = record {
      stand = subst (λ (all : List ReadShape). StandFor all s) (sym same) c.shapes.ensures.shapes.stand;
      acyclic = well_acyclic s well;
      shallow = well_shallow s well;
    } in
    (s, of)

pub returns : goal.returns
returns g c =
    let s = c.args.shapes.now in
    let well = c.shapes.ensures.well_formed in
    let shapes = c.in_ok-bound.bound.shapes in
    let same = subst (λ (ts : List Term). named_shapes ts shapes ≡ read_shapes c.shapes.result.now.shapes) c.names.ensures c.in_ok-bound.ensures.same in
    let of : AreOf c.args.data.now.terms shapes s = record {
      stand = subst (λ (all : List ReadShape). StandFor all s) (sym same) c.shapes.ensures.shapes.stand;
      acyclic = well_acyclic s well;
      shallow = well_shallow s well;
    } in
    c.verify.ensures s of
