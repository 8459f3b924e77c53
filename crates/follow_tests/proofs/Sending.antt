-- Threads may share what the workers see.
use Rattle.std.proofs.Crossing as crossing
use denote.Param.Send.{IsSync, shr_sync}
use denote.Param.SendFields.{as_row_sync, declared_sync}
use denote.RattleType.{RattleType}
use denote.Exit.{no}
use denote.Param.{arg, param}
use denote.Ref.{NamedLft, ShrRef}
use denote.Struct.Field.{row_field}
use denote.Struct.Tuple.{TupleAt, type_at}
use mir.Syntax.{Sym, Ty}
use mathlib.Core.List.{[], ◌∷◌}
use Rattle.std.specs.contracts.alloc.Global as heap
use Rattle.replica.specs.contracts.sharing.Replica as replica
use Rattle.replica.proofs.Sending.{replica_sync}

three_sync : (ν : Sym) (A B C : RattleType) → IsSync A → IsSync B → IsSync C → IsSync (TupleAt ν (A ∷ B ∷ C ∷ []))
three_sync ν A B C a b c = declared_sync (type_at ν (A ∷ B ∷ C ∷ [])) (as_row_sync (row_field A) a, (as_row_sync (row_field B) b, (as_row_sync (row_field C) c, tt)))

-- the runtime, the allocator and the replica
seen_sync : (ν : Sym) (α β γ : NamedLft) (R : RattleType) → IsSync R → IsSync (TupleAt ν (ShrRef α.mir α.lft R ∷ ShrRef β.mir β.lft heap.the_row ∷ ShrRef γ.mir γ.lft replica.the_row ∷ []))
seen_sync ν α β γ R run =
    three_sync ν (ShrRef α.mir α.lft R) (ShrRef β.mir β.lft heap.the_row) (ShrRef γ.mir γ.lft replica.the_row)
    (shr_sync α.mir α.lft R run) (shr_sync β.mir β.lft heap.the_row crossing.sync) (shr_sync γ.mir γ.lft replica.the_row replica_sync)

pub closure_sync : (σ : Ty) (ν : Sym) (α β γ : NamedLft) (R : RattleType) → IsSync R
    → IsSync (param 2 (arg σ no (TupleAt ν (ShrRef α.mir α.lft R ∷ ShrRef β.mir β.lft heap.the_row ∷ ShrRef γ.mir γ.lft replica.the_row ∷ []))))
closure_sync σ ν α β γ R run = record { shared = (seen_sync ν α β γ R run).shared }
