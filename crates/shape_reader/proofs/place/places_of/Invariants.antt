use Rattle.std.proofs.Common.{take}
use Rattle.shape_reader.specs.Parts.{ArePlaces}
use Rattle.shape_reader.proofs.place.places_of.Given as goal

abbrev pub invariant-loop-term : goal.invariant-loop-term
invariant-loop-term l = ArePlaces l.shape.nodes l.places (take l.term-index l.terms)
