-- A restored store is in step with the log of its records.
use Rattle.std.proofs.Common.{◌≡◌, ◌∙◌, ℕ, false, List, [], ◌∷◌, length, None, ap, sym, refl, subst, append-nil}
use Rattle.std.proofs.lemmas.List.{length-map}
use Rattle.disk.specs.Crashes.{EachCrash, History}
use Rattle.record_text.specs.declared.record.Record.{Record}
use Rattle.commit_log.specs.Format.{Opens}
use Rattle.commit_log.specs.Log.{LogState}
use Rattle.store_model.specs.declared.event.Limits.{Limits}
use Rattle.store_model.specs.Store.{RecordedStore, State, empty_store, version}
use Rattle.commit_core.specs.Logged.{IsInStep, Lasts, Shows}
use Rattle.commit_core.specs.Restored.{IsRestored, accepted_by, restored, restored_from, with_record}
use Rattle.commit_core.proofs.RestoredParts.{all_commits}

running : (s : State) (rs : List Record) → (restored_from s rs).stopped ≡ s.stopped
running s [] = refl
running s (r ∷ rs) = running (with_record s r) rs

count_of : (rs : List Record) → length rs ≡ version (restored rs)
count_of rs = sym (length-map rs accepted_by) ∙ ap length (all_commits rs)

pub in_step : {D : Type 0} (tells : Type 0) (bytes : D → List ℕ) (history : D → History) (l : Limits) (records : List Record) (core : RecordedStore) (log : LogState D)
    → IsRestored l records core → log.closed ≡ false → log.count ≡ length records
    → (tells → Opens (bytes log.disk) records × EachCrash (λ image. Opens image records) (history log.disk).now)
    → IsInStep tells bytes history records core log
in_step tells bytes history l records core log k closed count told =
    subst (λ (s : RecordedStore). IsInStep tells bytes history records s log) (sym k.store) (record {
      beside = record { closed = closed ∙ sym (running empty_store records); count = λ on. count ∙ count_of records };
      lasts = λ it. subst (λ (rs : List Record). Lasts rs None (history log.disk).now) (sym (append-nil records)) (told it).1;
      shows = λ it. subst (λ (rs : List Record). Shows rs None (bytes log.disk)) (sym (append-nil records)) (told it).0;
    })
