use Rattle.std.proofs.Common.{◌≡◌, ◌∷◌, string_bytes, take}
use Rattle.std.specs.List.{flat_map}
use Rattle.session_model.specs.Sessions.{binding_text}
use Rattle.session_transaction.proofs.replies.reply_of_select.Given as goal

abbrev pub invariant-loop-binding : goal.invariant-loop-binding
invariant-loop-binding l = string_bytes l.lines ≡ flat_map (λ ts. 10 ∷ binding_text ts) (take l.binding-index l.bindings)
