use Rattle.std.proofs.Common.{◌≡◌, drop}
use Rattle.iri_ref.specs.Scheme as scheme
use Rattle.iri_ref.proofs.scheme.reaches_colon.Given as goal

abbrev pub invariant-loop-character : goal.invariant-loop-character
invariant-loop-character l = scheme.reaches_colon (drop l.character-index l.rest) ≡ scheme.reaches_colon l.rest
