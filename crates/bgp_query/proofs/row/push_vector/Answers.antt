use Rattle.std.proofs.Common.{◌∙◌, ◌∷◌, ◌++◌, [], ℕ, Global, List, Vec, ap, map}
use Rattle.std.proofs.lemmas.List.{map-append}
use Rattle.bgp_query.proofs.row.push_vector.Goals as goal

pub returns : goal.returns
returns c =
    let old = c.args.vectors.now.items in
    let items = λ (v : Vec ℕ Global). v.items in
    ap (map items) c.in_ok-push.ensures.items ∙ map-append items old (c.in_ok-from_slice.field-0 ∷ []) ∙ ap (λ (xs : List ℕ). map items old ++ xs ∷ []) c.in_ok-from_slice.ensures.items
