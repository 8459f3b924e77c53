use Rattle.shape_sizes.specs.PathLooks.{IsCappedLook}
use Rattle.shape_sizes.proofs.StandIns.{with_stand_ins}
use Rattle.shape_sizes.proofs.looks.with_stand_ins.Goals as goal

pub returns : goal.returns
returns c = with_stand_ins c.args.graph.now (IsCappedLook c.args.graph.now) c.args.parents.now c.in_ok-places.places c.push_stand_ins.new.places c.requires.parents c.in_ok-places.ensures c.in_ok-push_stand_ins.ensures
