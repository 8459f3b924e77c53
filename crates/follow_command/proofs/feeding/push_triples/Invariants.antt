use Rattle.std.proofs.Common.{◌≡◌, [], ◌∷◌, ◌++◌, length, string_bytes, take}
use Rattle.std.specs.Prelude.{codes}
use Rattle.std.specs.Fmt.{decimal}
use Rattle.std.specs.List.{flat_map}
use Rattle.rdf_model.specs.NTriples.{triple_text}
use Rattle.follow_command.proofs.feeding.push_triples.Given as goal

abbrev pub invariant-loop-triple : goal.invariant-loop-triple
invariant-loop-triple l = string_bytes l.text ≡ string_bytes l.fn.text ++ codes "triples " ++ decimal (length l.triples) ++ 10 ∷ flat_map (λ t. triple_text t ++ 10 ∷ []) (take l.triple-index l.triples)
