use Rattle.std.proofs.Common.{◌≡◌, [], ◌∷◌, ◌++◌, string_bytes, take}
use Rattle.std.specs.List.{flat_map}
use Rattle.rdf_model.specs.NTriples.{term_text}
use Rattle.session_transaction.proofs.replies.push_binding.Given as goal

abbrev pub invariant-loop-term : goal.invariant-loop-term
invariant-loop-term l = string_bytes l.lines ≡ string_bytes l.fn.lines ++ 10 ∷ flat_map (λ t. term_text t ++ 32 ∷ []) (take l.term-index l.binding)
