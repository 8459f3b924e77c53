-- What two versions of one history have in common.
use Rattle.std.proofs.Common.{List, subst}
use Rattle.store_model.specs.declared.commit.Accepted.{Accepted}
use Rattle.store_laws.specs.Versions.{LeaveTriple, LeaveShapes, UnchangedTriplesStay, UnstagedShapesStay}
use Rattle.store_model.proofs.Versions.{replayed, between_is}

pub unchanged_triples_stay : UnchangedTriplesStay
unchanged_triples_stay l s u es t h leave =
    let g = replayed l s u es h in
    g.graph t (subst (λ (cs : List Accepted). LeaveTriple t cs) (between_is s u g) leave)

pub unstaged_shapes_stay : UnstagedShapesStay
unstaged_shapes_stay l s u es h leave =
    let g = replayed l s u es h in
    g.shapes (subst (λ (cs : List Accepted). LeaveShapes cs) (between_is s u g) leave)
