use Rattle.std.proofs.Common.{◌≡◌, ℕ, length, subst, arith, refl, Some}
use Rattle.std.specs.Prelude.{slice_get}
use Rattle.std.proofs.lemmas.Option.{slice_get_read}
use Rattle.shape_sizes.specs.Counted.{HaveStandIns}
use Rattle.shape_sizes.proofs.StandIns.{stand_ins_next, stand_ins_none}
use Rattle.shape_sizes.proofs.stand_ins.push_stand_ins.Goals as goal

pub loop-number-init : goal.loop-number-init
loop-number-init c = stand_ins_none c.args.graph.now c.args.parents.now c.args.places.now

pub loop-number-preserved : goal.loop-number-preserved
loop-number-preserved c =
    let p = c.index-parents-number.result in
    let got : slice_get c.args.parents.now c.loop-number.number ≡ Some p = slice_get_read c.args.parents.now _ c.loop-number.number p refl (omega arith) c.index-parents-number.is in
    stand_ins_next c.args.graph.now c.args.parents.now c.loop-number.number p c.args.places.now c.loop-number.places c.push.new.self c.in_ok-stand_in.field-0 got c.loop-number.invariant c.in_ok-stand_in.ensures c.in_ok-push.ensures.ok

pub returns : goal.returns
returns c =
    let all : c.loop-number.number ≡ length c.args.parents.now = omega arith in
    subst (λ (k : ℕ). HaveStandIns c.args.graph.now c.args.parents.now k c.args.places.now c.loop-number.places) all c.loop-number.invariant
