use Rattle.std.proofs.Common.{◌≡◌, ◌<◌, ℕ, List, ap, length, arith, sym, subst}
use Rattle.shape_ast.specs.declared.shape.Shape.{Shape}
use Rattle.result_evidence.specs.declared.aimed_row.AimedRow.{AimedRow}
use Rattle.result_evidence.specs.AimedRows.{AreAimsBelow}
use Rattle.result_evidence.specs.Standing.{ForEach}
use Rattle.result_evidence.proofs.Aimed.{more_shape, no_shape}
use Rattle.result_evidence.proofs.gathering.aimed_of_all.Goals as goal

pub loop-place-init : goal.loop-place-init
loop-place-init g c s of =
    let e = c.args.evaluation.now in
    subst (λ (all : List AimedRow). AreAimsBelow e.terms e.ids e.shapes 0 s all) (sym c.new-all.ensures.items) (no_shape e.terms e.ids e.shapes s)

pub loop-place-preserved : goal.loop-place-preserved
loop-place-preserved g c =
    let e = c.args.evaluation.now in
    let within : c.loop-place.place < length e.shapes = omega (arith, c.loop-place-test.true, c.len-place-end.ensures, ap (λ (xs : List (Shape ℕ)). length xs) c.bound-bound.ensures) in
    more_shape e.terms e.ids e.shapes c.loop-place.place c.loop-place.all.items c.in_ok-more.more.items c.append.new.self.items within c.in_ok-append.ensures.items c.loop-place.invariant c.in_ok-more.ensures

pub returns : goal.returns
returns g c =
    let e = c.args.evaluation.now in
    let end : c.loop-place.place ≡ length e.shapes = omega (arith, c.loop-place-test.false, c.loop-place.auto.place-end, c.len-place-end.ensures, ap (λ (xs : List (Shape ℕ)). length xs) c.bound-bound.ensures) in
    subst (λ k. ForEach e.terms e.shapes (λ s. AreAimsBelow e.terms e.ids e.shapes k s c.loop-place.all.items)) end c.loop-place.invariant
