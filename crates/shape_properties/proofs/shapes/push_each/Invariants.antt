use Rattle.std.proofs.Common.{◌≡◌, take}
use Rattle.rdf_model.specs.declared.term.Term.{Term}
use Rattle.shape_syntax.specs.Gathering.{HasGathered}
use Rattle.shape_properties.proofs.shapes.push_each.Given as goal

abbrev pub invariant-loop-member : goal.invariant-loop-member
invariant-loop-member l = HasGathered (λ (m n : Term). m ≡ n) (take l.member-index l.members) l.fn.nodes l.nodes
