use Rattle.std.proofs.Common.{refl}
use Rattle.threaded_check.proofs.Joining.{one_permitted, one_steps}
use Rattle.threaded_check.proofs.Parts.{aim_looks, aim_steps, is_permitted}
use Rattle.threaded_check.proofs.permits.permitted.Goals as goal

pub returns : goal.returns
returns g c =
    let e = c.args.evaluation.now in
    let pair = c.args.pair in
    let aim = c.in_ok-aim.aim in
    let old = c.args.footprint.now in
    let new = c.is_aim.new.footprint in
    let told = c.in_ok-aim.ensures in
    let place = c.requires.0 in
    let counted = c.permit_at-allowed.ensures in
    record {
      permitted = one_permitted e.terms e.ids e.shapes pair (record { shape = pair.0; focus = pair.1; allowed = c.permit_at-allowed.result }) refl
          (is_permitted e.terms e.ids e.shapes pair aim old new place told c.requires.1 c.permit_at-allowed.result counted.allowed);
      looks = aim_looks e.terms e.ids e.shapes pair aim old new place told;
      steps = one_steps e.terms e.ids e.shapes pair c.args.steps.now c.permit_at-allowed.new.steps place
          (aim_steps e.terms e.ids e.shapes pair aim old new place told c.args.steps.now c.permit_at-allowed.new.steps counted.steps);
      counted = counted.counted;
    }
