-- A history with a place at which its log failed leaves the store stopped.
use Rattle.std.proofs.Common.{◌≡◌, ◌∙◌, ℕ, suc, Bool, true, false, ◌||◌, cond, List, [], ◌∷◌, Option, Some, None, refl, ap}
use Rattle.std.specs.Option.{option_map}
use Rattle.disk.specs.Crashes.{History}
use Rattle.disk.specs.Faults.{Rose}
use Rattle.commit_log.specs.Log.{LogState}
use Rattle.store_model.specs.declared.event.Event.{Event}
use Rattle.store_model.specs.declared.event.Limits.{Limits}
use Rattle.store_model.specs.Logs.{has_fault, is_fault}
use Rattle.store_model.specs.Store.{RecordedStore, State, Replays}
use Rattle.store_model.proofs.Logs.{FaultsStop-holds}
use Rattle.session_laws.specs.Following.{fault_place}
use Rattle.session_threads.specs.Ends.{LeavesStore}

has_by : (b rest : Bool) (o : Option ℕ) → ((o ≡ None → ⊥) → rest ≡ true) → (cond b (Some 0) (option_map suc o) ≡ None → ⊥) → (b || rest) ≡ true
has_by true rest o f n = refl
has_by false rest o f n = f (λ e. n (ap (option_map suc) e))

fault_has : (es : List Event) → (fault_place es ≡ None → ⊥) → has_fault es ≡ true
fault_has [] n = absurd (n refl)
fault_has (e ∷ es) n = has_by (is_fault e.reply) (has_fault es) (fault_place es) (fault_has es) n

or_true : (a : Bool) → (a || true) ≡ true
or_true true = refl
or_true false = refl

pub fault_stops : (l : Limits) (s t : State) (es : List Event) → Replays l s es t → (fault_place es ≡ None → ⊥) → t.stopped ≡ true
fault_stops l s t es h n = FaultsStop-holds l s t es h ∙ (ap (λ b. s.stopped || b) (fault_has es n) ∙ or_true s.stopped)

-- where the log failed its disk is to blame
pub blamed_fault : {D : Type 0} (tells : Type 0) (bytes : D → List ℕ) (history : D → History) (chosen : D → Option (List ℕ)) (faults : D → ℕ) (core : RecordedStore) (log : LogState D) (last : RecordedStore) (later : LogState D)
    → LeavesStore tells bytes history chosen faults core (Some log) last (Some later) → (fault_place last.history ≡ None → ⊥) → Rose (faults log.disk) (faults later.disk)
blamed_fault tells bytes history chosen faults core log last later h n = h.its.blamed (fault_stops last.limits last.start last.state last.history h.replays n)
