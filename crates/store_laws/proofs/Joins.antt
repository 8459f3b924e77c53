-- What an accepted commit's joins gave it would have been given at its end.
use Rattle.rdf_model.specs.Graphs.{after}
use Rattle.bgp_query.specs.TermBindings.{opened}
use Rattle.term_joins.proofs.Standing.{asked_same, bindings_rest_on_finds}
use Rattle.store_laws.specs.Joins.{SelectsAreSerializable}
use Rattle.store_laws.proofs.Serial.{finds_are_serializable}

pub selects_are_serializable : SelectsAreSerializable
selects_are_serializable l start base last next earlier between i n x why ps changes a h k e step asked =
    let g = after last.graph changes in
    let b = after base.graph changes in
    bindings_rest_on_finds g b ps
    (λ p c t m. asked_same g b (opened p) (finds_are_serializable l start base last next earlier between i n x why (opened p) changes a h k e step (asked p c)) t m)
