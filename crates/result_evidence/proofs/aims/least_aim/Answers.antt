use Rattle.std.proofs.Common.{◌≡◌, ◌<◌, ℕ, List, ap, length, arith, subst}
use Rattle.shape_ast.specs.declared.shape.Shape.{Shape}
use Rattle.result_evidence.specs.Aims.{GivesNoneBelow}
use Rattle.result_evidence.specs.Standing.{ForEach}
use Rattle.result_evidence.proofs.LeastAims.{first_aim, none_below, none_more}
use Rattle.result_evidence.proofs.aims.least_aim.Goals as goal

pub returns-in-Some : goal.returns-in-Some
returns-in-Some g c =
    let e = c.args.evaluation.now in
    let within : c.loop-place.place < length e.shapes = omega (arith, c.loop-place-test.true, c.len-place-end.ensures, ap (λ (xs : List (Shape ℕ)). length xs) c.bound-bound.ensures) in
    first_aim e.terms e.ids e.shapes c.args.row.now (record { place = c.loop-place.place; focus = c.in-Some.focus }) within c.loop-place.invariant c.in_ok-least.least c.in-Some.is c.in_ok-least.ensures

pub loop-place-init : goal.loop-place-init
loop-place-init g c = none_below c.args.evaluation.now.terms c.args.evaluation.now.ids c.args.evaluation.now.shapes c.args.row.now

pub loop-place-preserved : goal.loop-place-preserved
loop-place-preserved g c =
    let e = c.args.evaluation.now in
    none_more e.terms e.ids e.shapes c.args.row.now c.loop-place.place c.loop-place.invariant c.in_ok-least.least c.in-None.is c.in_ok-least.ensures

pub returns : goal.returns
returns g c =
    let e = c.args.evaluation.now in
    let all : c.loop-place.place ≡ length e.shapes = omega (arith, c.loop-place-test.false, c.loop-place.auto.place-end, c.len-place-end.ensures, ap (λ (xs : List (Shape ℕ)). length xs) c.bound-bound.ensures) in
    subst (λ k. ForEach e.terms e.shapes (λ s. GivesNoneBelow e.terms e.ids e.shapes s c.args.row.now k)) all c.loop-place.invariant
