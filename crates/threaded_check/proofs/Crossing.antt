-- What threads share and take: what an evaluation reads, and the shares of pairs.
use Rattle.std.proofs.Crossing.{crosses}
use denote.Exit.{no}
use denote.Param.{arg, copied, param}
use denote.Param.Send.{IsSend, IsSync, arg_send, copied_send, param_send, sendable, shr_send, shr_sync}
use denote.Param.SendFields.{as_row_send, as_row_sync, declared_send, declared_sync}
use denote.RattleType.{RattleType}
use denote.Ref.{NamedLft, ShrRef}
use denote.Struct.Field.{row_field}
use denote.Struct.Tuple.{TupleAt, type_at}
use mir.Syntax.{Sym, Ty}
use mathlib.Core.List.{[], ◌∷◌}
use Rattle.std.specs.contracts.alloc.Global as heap
use Rattle.std.specs.contracts.impls.GlobalAllocator.TheImpl as heap_allocates
use Rattle.rayon.proofs.iter.min_len.MinLen.TheSendSync as least_sent
use Rattle.rayon.proofs.vec.IntoIter.TheSendSync as shares_sent
use Rattle.rayon.specs.contracts.iter.map.Map as mapped
use Rattle.rayon.specs.contracts.iter.min_len.MinLen as least
use Rattle.rayon.specs.contracts.vec.IntoIter as shares
use Rattle.rdf_model.specs.declared.names.Names as names
use Rattle.rdf_model.specs.declared.triples.Triples as triples
use Rattle.shape_eval.specs.contracts.context.Evaluation as evaluation
use Rattle.threaded_listing.proofs.Crossing.{evaluation_sync}
use Rattle.threaded_check.proofs.pairs.Share.TheSendSync as share_sent
use Rattle.threaded_check.specs.contracts.pairs.Share as share

-- what a thread sees
module _ (ν : Sym) (α β : NamedLft) (R N : RattleType) (r : triples.Ghosts R.Denot) (n : names.Ghosts N.Denot) (graph : IsSync R) (terms : IsSync N) where
  pub held_send : IsSend (TupleAt ν (ShrRef α.mir α.lft (evaluation.the_row β R N r n) ∷ []))
  held_send = declared_send (type_at ν (ShrRef α.mir α.lft (evaluation.the_row β R N r n) ∷ [])) (
    as_row_send (row_field (ShrRef α.mir α.lft (evaluation.the_row β R N r n))) (shr_send α.mir α.lft (evaluation.the_row β R N r n) (evaluation_sync β R N r n graph terms)),
    tt,
  )

  pub held_sync : IsSync (TupleAt ν (ShrRef α.mir α.lft (evaluation.the_row β R N r n) ∷ []))
  held_sync = declared_sync (type_at ν (ShrRef α.mir α.lft (evaluation.the_row β R N r n) ∷ [])) (
    as_row_sync (row_field (ShrRef α.mir α.lft (evaluation.the_row β R N r n))) (shr_sync α.mir α.lft (evaluation.the_row β R N r n) (evaluation_sync β R N r n graph terms)),
    tt,
  )

  pub closure_send : (σ : Ty) → IsSend (copied 3 (arg σ no (TupleAt ν (ShrRef α.mir α.lft (evaluation.the_row β R N r n) ∷ []))))
  closure_send σ = copied_send 3 (arg σ no (TupleAt ν (ShrRef α.mir α.lft (evaluation.the_row β R N r n) ∷ []))) (arg_send σ no (TupleAt ν (ShrRef α.mir α.lft (evaluation.the_row β R N r n) ∷ [])) held_send)

  pub closure_sync : (σ : Ty) → IsSync (copied 3 (arg σ no (TupleAt ν (ShrRef α.mir α.lft (evaluation.the_row β R N r n) ∷ []))))
  closure_sync σ = record { shared = held_sync.shared }

shares_send : IsSend (shares.the_row share.the_row heap.the_row heap_allocates.ghosts)
shares_send = search (shares_sent.the_send, share_sent.the_send, crosses, sendable) depth 60 fits 20000

least_send : IsSend (least.the_row (shares.the_row share.the_row heap.the_row heap_allocates.ghosts))
least_send = search (least_sent.the_send, shares_send, crosses, sendable) depth 60 fits 20000

mapped_send : (F : RattleType) → IsSend F → IsSend (mapped.the_row (least.the_row (shares.the_row share.the_row heap.the_row heap_allocates.ghosts)) F)
mapped_send F sent = declared_send (mapped.the_type (least.the_row (shares.the_row share.the_row heap.the_row heap_allocates.ghosts)) F) (
  as_row_send (row_field (least.the_row (shares.the_row share.the_row heap.the_row heap_allocates.ghosts))) least_send,
  (as_row_send (row_field F) sent, tt),
)

-- the shares, for each of which a thread calls the closure
pub chain_send : (σ : Ty) (F : RattleType) → IsSend F → IsSend (param 0 (arg σ no (mapped.the_row (least.the_row (shares.the_row share.the_row heap.the_row heap_allocates.ghosts)) F)))
chain_send σ F sent =
    let chain = mapped.the_row (least.the_row (shares.the_row share.the_row heap.the_row heap_allocates.ghosts)) F in
    param_send 0 (arg σ no chain) (arg_send σ no chain (mapped_send F sent))
