use Rattle.std.proofs.Common.{◌≡◌, get_or}
use Rattle.std.specs.Prelude.{Some}
use Rattle.path_ast.specs.declared.path.Path.{Predicate}
use Rattle.shape_eval.specs.Predicates.{IsPathAt}
use Rattle.shape_eval.proofs.Closings.{path_got}
use Rattle.shape_eval.proofs.Growing.{right_same, some_all, some_more}
use Rattle.shape_eval.proofs.closing.path_predicates.Goals as goal

pub loop-place-preserved : goal.loop-place-preserved
loop-place-preserved c =
    let places = c.args.places.now in
    let i = c.loop-place.place-index in
    some_more (IsPathAt c.args.shapes.now) places i 0 c.loop-place-test.true c.loop-place.found.items c.add_predicate.new.found.items c.loop-place.invariant
    (right_same c.loop-place.found.items c.add_predicate.new.found.items (λ p. (get_or c.args.shapes.now (get_or places i 0) c.index-shapes-place.result).path ≡ Some (Predicate p)) (IsPathAt c.args.shapes.now (get_or places i 0))
    (path_got c.args.shapes.now (get_or places i 0) c.index-shapes-place.result (c.requires i 0 c.loop-place-test.true)) c.in_ok-add_predicate.ensures)

pub returns : goal.returns
returns c = some_all (IsPathAt c.args.shapes.now) c.args.places.now c.loop-place.place-index c.loop-place-test.false c.loop-place.found.items c.loop-place.invariant
