-- What a select is answered, by how many bindings there are.
use Rattle.std.proofs.Common.{◌≡◌, ◌<◌, ◌≤◌, Bool, true, false, cond, nat_lt, List, ◌∷◌, length, ap, arith}
use Rattle.std.specs.List.{flat_map}
use Rattle.std.proofs.lemmas.Bool.Decides.{nat_tests}
use Rattle.rdf_model.specs.declared.term.Term.{Term}
use Rattle.bgp_query.specs.Bindings.{most_bindings}
use Rattle.session_model.specs.declared.reply.SessionReply.{SessionReply}
use Rattle.session_model.specs.declared.reply.SessionReply.TheVariants.{SelectFull, Selected}
use Rattle.session_model.specs.Sessions.{binding_text, select_reply}

-- by whether there are more than are answered
abbrev reply_by : Bool → List (List Term) → SessionReply
reply_by b rows = cond b SelectFull (Selected (length rows) (flat_map (λ ts. 10 ∷ binding_text ts) rows))

pub few_selected : (rows : List (List Term)) → length rows ≤ most_bindings → select_reply rows ≡ Selected (length rows) (flat_map (λ ts. 10 ∷ binding_text ts) rows)
few_selected rows few =
    let within : nat_lt most_bindings (length rows) ≡ false = grind (arith, nat_tests, few) in
    ap (λ b. reply_by b rows) within

pub too_many_selected : (rows : List (List Term)) → most_bindings < length rows → select_reply rows ≡ SelectFull
too_many_selected rows many =
    let past : nat_lt most_bindings (length rows) ≡ true = grind (arith, nat_tests, many) in
    ap (λ b. reply_by b rows) past
