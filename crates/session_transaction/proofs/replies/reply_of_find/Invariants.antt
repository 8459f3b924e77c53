use Rattle.std.proofs.Common.{◌≡◌, ◌∷◌, string_bytes, take}
use Rattle.std.specs.List.{flat_map}
use Rattle.rdf_model.specs.NTriples.{triple_text}
use Rattle.session_transaction.proofs.replies.reply_of_find.Given as goal

abbrev pub invariant-loop-triple : goal.invariant-loop-triple
invariant-loop-triple l = string_bytes l.lines ≡ flat_map (λ t. 10 ∷ triple_text t) (take l.triple-index l.triples)
