use Rattle.std.proofs.Common.{◌≡◌, ◌+◌, length}
use Rattle.rdf_lexical.specs.Enclosed
use Rattle.rdf_lexical.proofs.enclosing.enclosed_length.Given as goal

abbrev pub invariant-pieces : goal.invariant-pieces
invariant-pieces l = record {
  value : Enclosed.opened l.count (Enclosed.enclosed_length l.kind 0 l.rest) ≡ Enclosed.enclosed_length l.kind 0 l.characters;
  bound : l.count + length l.rest ≡ length l.characters;
}

abbrev pub decreases-pieces : goal.decreases-pieces
decreases-pieces l = length l.rest
