-- One session more.
use Rattle.std.proofs.Common.{ℕ, ◌+◌, List, [], ◌∷◌, ◌++◌, length, refl, subst, arith}
use Rattle.outside.specs.Faults.{Refusal}
use Rattle.session_model.specs.declared.command.Command.{Command}
use Rattle.session_reader.specs.SessionFile.{IsSession}
use Rattle.load_maker.specs.Workload.{workload}
use Rattle.generate_command.specs.Load.{AreSessions}

pub one_session_more : (n k : ℕ) (all : List (List Command)) (commands : List Command) (old mid new : List Refusal) → AreSessions n k all old mid → IsSession (k + length all) 1 (workload n (k + length all)) commands mid new → AreSessions n k (all ++ commands ∷ []) old new
one_session_more n k [] commands old mid new g h =
    (new, subst (λ (i : ℕ). IsSession i 1 (workload n i) commands old new) (omega arith) (subst (λ (xs : List Refusal). IsSession (k + 0) 1 (workload n (k + 0)) commands xs new) g h), refl)
one_session_more n k (c ∷ cs) commands old mid new g h =
    (g.0, g.1, one_session_more n (k + 1) cs commands g.0 mid new g.2 (subst (λ (i : ℕ). IsSession i 1 (workload n i) commands mid new) (omega arith) h))
