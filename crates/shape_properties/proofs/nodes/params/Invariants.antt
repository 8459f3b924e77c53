use Rattle.std.proofs.Common.{[], map, take}
use Rattle.shape_syntax.specs.Gathering.{HasGathered}
use Rattle.shape_properties.specs.Params.{SaysParam, param_triple}
use Rattle.shape_properties.proofs.Turns.{SomeOf}
use Rattle.shape_properties.proofs.nodes.params.Given as goal

abbrev pub invariant-loop-triple : goal.invariant-loop-triple
invariant-loop-triple l = record {
  said : HasGathered SaysParam (take l.triple-index l.own) [] l.params.items;
  by : SomeOf (take l.triple-index l.own) (map (param_triple l.node) l.params.items);
}
