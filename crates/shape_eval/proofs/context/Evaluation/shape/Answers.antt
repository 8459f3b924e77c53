use Rattle.std.proofs.Common.{◌≡◌, ◌<◌, ℕ, List, Some, length, slice_get, subst}
use Rattle.std.proofs.lemmas.List.Elements.{All-contains}
use Rattle.rdf_model.specs.Numbers.{term_at}
use Rattle.shape_ast.specs.declared.shape.Shape.{Shape}
use Rattle.shape_ast.specs.Readings.{HoldsOfShape}
use Rattle.shape_ast.specs.Standing.{IsBuilt}
use Rattle.shape_eval.proofs.Lookups.{of_place, taken_at}
use Rattle.shape_eval.proofs.context.Evaluation.shape.Goals as goal

pub returns-clause-bound : goal.returns-clause-bound
returns-clause-bound g c =
    let e = c.args.self.now in
    let x = c.in-Some.shape.now in
    let taken = subst (λ (xs : List (Shape ℕ)). slice_get xs c.args.place ≡ Some x) c.shapes-shapes.ensures (taken_at c.shapes-shapes.result.now c.args.place x c.in-Some.ensures.lookup.3.0 c.in-Some.ensures.lookup.1) in
    All-contains (HoldsOfShape (λ n. n < length e.terms) (length e.shapes)) e.shapes x c.recall.ensures.bound (of_place e.shapes c.args.place x taken)

pub returns-clause-built : goal.returns-clause-built
returns-clause-built g c =
    let e = c.args.self.now in
    let x = c.in-Some.shape.now in
    let taken = subst (λ (xs : List (Shape ℕ)). slice_get xs c.args.place ≡ Some x) c.shapes-shapes.ensures (taken_at c.shapes-shapes.result.now c.args.place x c.in-Some.ensures.lookup.3.0 c.in-Some.ensures.lookup.1) in
    All-contains (IsBuilt (term_at e.terms)) e.shapes x c.recall.ensures.built (of_place e.shapes c.args.place x taken)
