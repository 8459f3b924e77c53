use Rattle.std.proofs.Common.{[], map, take}
use Rattle.rdf_model.specs.declared.triple.Triple.{Triple}
use Rattle.shape_syntax.specs.Gathering.{HasGathered}
use Rattle.shape_properties.specs.OfProperties.{OfTriple}
use Rattle.shape_properties.proofs.Turns.{SomeOf}
use Rattle.shape_reader.proofs.part.parts_of.Given as goal

abbrev pub invariant-loop-triple : goal.invariant-loop-triple
invariant-loop-triple g l = record {
  said : HasGathered (λ (t : Triple) x. OfTriple t (λ p v. g.P.Part.says l.shape.graph l.shape.nodes p v x)) (take l.triple-index l.own) [] l.parts;
  by : SomeOf (take l.triple-index l.own) (map (g.P.Part.triple l.shape.node) l.parts);
}
