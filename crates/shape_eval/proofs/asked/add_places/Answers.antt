use Rattle.shape_eval.proofs.Growing.{beside_all, beside_more}
use Rattle.shape_eval.proofs.asked.add_places.Goals as goal

pub loop-place-preserved : goal.loop-place-preserved
loop-place-preserved c = beside_more c.args.more.now c.loop-place.place-index 0 c.loop-place-test.true c.args.places.now.items c.loop-place.places.items c.add_place.new.places.items c.loop-place.invariant c.in_ok-add_place.ensures

pub returns : goal.returns
returns c = beside_all c.args.more.now c.loop-place.place-index c.loop-place-test.false c.args.places.now.items c.loop-place.places.items c.loop-place.invariant
