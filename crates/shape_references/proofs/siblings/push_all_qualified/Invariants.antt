use Rattle.std.proofs.Common.{take}
use Rattle.rdf_model.specs.declared.term.Term.{Term}
use Rattle.rdf_model.specs.declared.triple.Triple.{Triple}
use Rattle.shape_model.specs.Vocabulary.{ShQualifiedValueShape}
use Rattle.shape_model.specs.ShapeSyntax.{HasProperty}
use Rattle.shape_syntax.specs.Gathering.{HasGathered}
use Rattle.shape_references.proofs.siblings.push_all_qualified.Given as goal

abbrev pub invariant-loop-triple : goal.invariant-loop-triple
invariant-loop-triple l = HasGathered (λ (v : Triple) (t : Term). HasProperty l.graph v.object ShQualifiedValueShape t) (take l.triple-index l.triple-items) l.fn.nodes l.nodes
