-- Shapes over numbers may go to another thread, and threads may share them, and what an evaluation reads. A pattern keeps a
-- `Regex`, of which this is shown part by part.
use Rattle.std.proofs.Crossing.{crosses, Box-send, Box-sync, Vec-send, Vec-sync}
use denote.Exit.{no}
use denote.Param.{arg, copied, param}
use denote.Param.Send.{IsSend, IsSync, arg_send, copied_send, param_send, sendable, shr_send, shr_sync, view_sync}
use denote.Param.SendFields.{as_row_send, as_row_sync, declared_send, declared_sync}
use denote.RattleType.{RattleType}
use denote.Ref.{NamedLft, ShrRef}
use denote.Struct.Field.{row_field, u64-field}
use denote.Struct.Tuple.{TupleAt, type_at}
use mir.Syntax.{Sym, Ty}
use mathlib.Core.List.{[], ◌∷◌}
use Rattle.std.specs.contracts.alloc.Global as heap
use Rattle.std.specs.contracts.impls.GlobalAllocator.TheImpl as heap_allocates
use Rattle.rayon.proofs.iter.min_len.MinLen.TheSendSync as least_sent
use Rattle.rayon.proofs.vec.IntoIter.TheSendSync as shares_sent
use Rattle.rayon.specs.contracts.iter.map.Map as mapped
use Rattle.rayon.specs.contracts.iter.min_len.MinLen as least
use Rattle.rayon.specs.contracts.vec.IntoIter as shares
use Rattle.threaded_listing.proofs.visit.PermittedVisit.TheSendSync as visit_sent
use Rattle.threaded_listing.proofs.visit.Share.TheSendSync as share_sent
use Rattle.threaded_listing.specs.contracts.visit.Share as share
use Rattle.std.specs.Borrow.{u32 as word}
use Rattle.std.specs.contracts.prelude.U32Ord.TheImpl as word_order
use Rattle.std.specs.contracts.prelude.U32PartialEq.TheImpl as word_equality
use Rattle.std.specs.contracts.prelude.U32PartialOrd.TheImpl as word_comparison
use Rattle.regex.specs.contracts.pattern.Pattern as regex_pattern
use Rattle.regex.specs.contracts.string.regex.Regex as regex
use Rattle.regex_meta.specs.contracts.program.Program as program
use Rattle.regex_hir.proofs.hir.Hir.TheLaws.TheKnot as hir_knot
use Rattle.regex_hir.proofs.look.Look.TheSendSync as look_sent
use Rattle.regex_dfa.proofs.dfa.Dfa.TheSendSync as dfa_sent
use Rattle.regex_literal.proofs.ladder.Ladder.TheSendSync as ladder_sent
use Rattle.regex_literal.proofs.prefilter.Prefilter.TheSendSync as prefilter_sent
use Rattle.collections.proofs.sequence.Sequence.TheSendSync as sequence_sent
use Rattle.path_ast.proofs.path.Path.TheLaws.TheKnot as path_knot
use Rattle.path_ast.specs.contracts.path.Path as path
use Rattle.shape_ast.proofs.target.Target.TheSendSync as target_sent
use Rattle.shape_ast.proofs.constraint.Constraint.TheSendSync as constraint_sent
use Rattle.shape_ast.specs.contracts.pattern.CompiledPattern as pattern
use Rattle.shape_ast.specs.contracts.shape.Shape as shape
use Rattle.shape_ast.specs.contracts.bound.Bound as bound
use Rattle.rdf_model.specs.declared.names.Names as names
use Rattle.rdf_model.specs.declared.triples.Triples as triples
use Rattle.shape_eval.specs.contracts.context.Evaluation as evaluation
use Rattle.shape_eval.specs.contracts.context.Evaluation.TheInside as inside

program_send : IsSend program.the_row
program_send = search (dfa_sent.the_field_send, look_sent.the_field_send, ladder_sent.the_field_send, prefilter_sent.the_send, crosses, hir_knot.crosses, sendable) depth 60 fits 20000

program_sync : IsSync program.the_row
program_sync = search (dfa_sent.the_field_sync, look_sent.the_field_sync, ladder_sent.the_field_sync, prefilter_sent.the_sync, crosses, hir_knot.crosses, sendable) depth 60 fits 20000

source_send : IsSend regex_pattern.the_row
source_send = declared_send regex_pattern.the_type (search (crosses, sendable) depth 60 fits 20000, (search (crosses, sendable) depth 60 fits 20000, (search (crosses, sendable) depth 60 fits 20000, (program_send, tt))))

source_sync : IsSync regex_pattern.the_row
source_sync = declared_sync regex_pattern.the_type (search (crosses, sendable) depth 60 fits 20000, (search (crosses, sendable) depth 60 fits 20000, (search (crosses, sendable) depth 60 fits 20000, (program_sync, tt))))

pub regex_send : IsSend regex.the_row
regex_send = declared_send regex.the_type (source_send, tt)

pub regex_sync : IsSync regex.the_row
regex_sync = declared_sync regex.the_type (source_sync, tt)

path_send : (P : RattleType) → IsSend P → IsSend (path.the_row P)
path_send P sent = as_row_send (path.the_field P) (path_knot.send-Path P sent Box-send Vec-send)

path_sync : (P : RattleType) → IsSync P → IsSync (path.the_row P)
path_sync P sent = as_row_sync (path.the_field P) (path_knot.sync-Path P sent Box-sync Vec-sync)

-- shapes over numbers of terms
pattern_by_number_send : IsSend (pattern.the_row word)
pattern_by_number_send = search (regex_send, regex_sync, crosses, sendable) depth 60 fits 20000

pattern_by_number_sync : IsSync (pattern.the_row word)
pattern_by_number_sync = search (regex_send, regex_sync, crosses, sendable) depth 60 fits 20000

shape_by_number_send : IsSend (shape.the_row word word_order.ghosts word_equality.ghosts word_comparison.ghosts)
shape_by_number_send = search (pattern_by_number_send, path_send, target_sent.the_send, constraint_sent.the_send, sequence_sent.the_send, crosses, sendable) depth 60 fits 20000

shape_by_number_sync : IsSync (shape.the_row word word_order.ghosts word_equality.ghosts word_comparison.ghosts)
shape_by_number_sync = search (pattern_by_number_sync, path_sync, target_sent.the_sync, constraint_sent.the_sync, sequence_sent.the_sync, crosses, sendable) depth 60 fits 20000

bound_send : IsSend bound.the_row
bound_send = search (shape_by_number_send, sequence_sent.the_send, crosses, sendable) depth 60 fits 20000

pub bound_sync : IsSync bound.the_row
bound_sync = search (shape_by_number_sync, sequence_sent.the_sync, crosses, sendable) depth 60 fits 20000

inside_sync : (a : NamedLft) (R N : RattleType) (r : triples.Ghosts R.Denot) (n : names.Ghosts N.Denot) → IsSync R → IsSync N → IsSync (inside.the_row a R N r n)
inside_sync a R N r n graph terms = declared_sync (inside.the_type a R N r n) (
  search (crosses, sendable) depth 60,
  (
    as_row_sync (row_field (ShrRef a.mir a.lft R)) (shr_sync a.mir a.lft R graph),
    (
      as_row_sync (row_field (ShrRef a.mir a.lft N)) (shr_sync a.mir a.lft N terms),
      (
        search (crosses, sendable) depth 60,
        (shr_sync a.mir a.lft bound.the_row bound_sync, tt),
      ),
    ),
  ),
)

pub evaluation_sync : (a : NamedLft) (R N : RattleType) (r : triples.Ghosts R.Denot) (n : names.Ghosts N.Denot) → IsSync R → IsSync N → IsSync (evaluation.the_row a R N r n)
evaluation_sync a R N r n graph terms = search (inside_sync a R N r n graph terms, view_sync) depth 60

-- what a thread sees: what the evaluation reads, and which shape it is
pub held_send : (ν : Sym) (α β γ : NamedLft) (R N : RattleType) (r : triples.Ghosts R.Denot) (n : names.Ghosts N.Denot) → IsSync R → IsSync N → IsSend (TupleAt ν (ShrRef α.mir α.lft (evaluation.the_row β R N r n) ∷ ShrRef γ.mir γ.lft (u64-field).row ∷ []))
held_send ν α β γ R N r n graph terms = declared_send (type_at ν (ShrRef α.mir α.lft (evaluation.the_row β R N r n) ∷ ShrRef γ.mir γ.lft (u64-field).row ∷ [])) (
  as_row_send (row_field (ShrRef α.mir α.lft (evaluation.the_row β R N r n))) (shr_send α.mir α.lft (evaluation.the_row β R N r n) (evaluation_sync β R N r n graph terms)),
  (as_row_send (row_field (ShrRef γ.mir γ.lft (u64-field).row)) (search sendable), tt),
)

held_sync : (ν : Sym) (α β γ : NamedLft) (R N : RattleType) (r : triples.Ghosts R.Denot) (n : names.Ghosts N.Denot) → IsSync R → IsSync N → IsSync (TupleAt ν (ShrRef α.mir α.lft (evaluation.the_row β R N r n) ∷ ShrRef γ.mir γ.lft (u64-field).row ∷ []))
held_sync ν α β γ R N r n graph terms = declared_sync (type_at ν (ShrRef α.mir α.lft (evaluation.the_row β R N r n) ∷ ShrRef γ.mir γ.lft (u64-field).row ∷ [])) (
  as_row_sync (row_field (ShrRef α.mir α.lft (evaluation.the_row β R N r n))) (shr_sync α.mir α.lft (evaluation.the_row β R N r n) (evaluation_sync β R N r n graph terms)),
  (as_row_sync (row_field (ShrRef γ.mir γ.lft (u64-field).row)) (search sendable), tt),
)

pub closure_send : (σ : Ty) (ν : Sym) (α β γ : NamedLft) (R N : RattleType) (r : triples.Ghosts R.Denot) (n : names.Ghosts N.Denot) → IsSync R → IsSync N
    → IsSend (copied 3 (arg σ no (TupleAt ν (ShrRef α.mir α.lft (evaluation.the_row β R N r n) ∷ ShrRef γ.mir γ.lft (u64-field).row ∷ []))))
closure_send σ ν α β γ R N r n graph terms = copied_send 3 (arg σ no (TupleAt ν (ShrRef α.mir α.lft (evaluation.the_row β R N r n) ∷ ShrRef γ.mir γ.lft (u64-field).row ∷ []))) (arg_send σ no (TupleAt ν (ShrRef α.mir α.lft (evaluation.the_row β R N r n) ∷ ShrRef γ.mir γ.lft (u64-field).row ∷ [])) (held_send ν α β γ R N r n graph terms))

pub closure_sync : (σ : Ty) (ν : Sym) (α β γ : NamedLft) (R N : RattleType) (r : triples.Ghosts R.Denot) (n : names.Ghosts N.Denot) → IsSync R → IsSync N
    → IsSync (copied 3 (arg σ no (TupleAt ν (ShrRef α.mir α.lft (evaluation.the_row β R N r n) ∷ ShrRef γ.mir γ.lft (u64-field).row ∷ []))))
closure_sync σ ν α β γ R N r n graph terms = record { shared = (held_sync ν α β γ R N r n graph terms).shared }

shares_send : IsSend (shares.the_row share.the_row heap.the_row heap_allocates.ghosts)
shares_send = search (shares_sent.the_send, share_sent.the_send, visit_sent.the_send, crosses, sendable) depth 60 fits 20000

least_send : IsSend (least.the_row (shares.the_row share.the_row heap.the_row heap_allocates.ghosts))
least_send = search (least_sent.the_send, shares_send, crosses, sendable) depth 60 fits 20000

mapped_send : (F : RattleType) → IsSend F → IsSend (mapped.the_row (least.the_row (shares.the_row share.the_row heap.the_row heap_allocates.ghosts)) F)
mapped_send F sent = declared_send (mapped.the_type (least.the_row (shares.the_row share.the_row heap.the_row heap_allocates.ghosts)) F) (
  as_row_send (row_field (least.the_row (shares.the_row share.the_row heap.the_row heap_allocates.ghosts))) least_send,
  (as_row_send (row_field F) sent, tt),
)

-- the shares, for each of which a thread calls the closure
pub chain_send : (σ : Ty) (ν : Sym) (α β γ : NamedLft) (R N : RattleType) (r : triples.Ghosts R.Denot) (n : names.Ghosts N.Denot) → IsSync R → IsSync N
    → IsSend (param 0 (arg σ no (mapped.the_row (least.the_row (shares.the_row share.the_row heap.the_row heap_allocates.ghosts)) (TupleAt ν (ShrRef α.mir α.lft (evaluation.the_row β R N r n) ∷ ShrRef γ.mir γ.lft (u64-field).row ∷ [])))))
chain_send σ ν α β γ R N r n graph terms =
    let seen = TupleAt ν (ShrRef α.mir α.lft (evaluation.the_row β R N r n) ∷ ShrRef γ.mir γ.lft (u64-field).row ∷ []) in
    let chain = mapped.the_row (least.the_row (shares.the_row share.the_row heap.the_row heap_allocates.ghosts)) seen in
    param_send 0 (arg σ no chain) (arg_send σ no chain (mapped_send seen (held_send ν α β γ R N r n graph terms)))
