use Rattle.std.proofs.Common.{map, take}
use Rattle.rdf_model.specs.declared.change.Change.TheVariants.{Add}
use Rattle.follower.specs.Numbered.{StandFor}
use Rattle.follower.proofs.numbering.additions.Given as goal

abbrev pub invariant-loop-triple : goal.invariant-loop-triple
invariant-loop-triple l = StandFor l.names.terms l.changes.items (map Add (take l.triple-index l.triples))
