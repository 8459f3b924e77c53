-- A run without a log begins with an empty store, and no log fails.
use Rattle.std.proofs.Common.{◌≡◌, ℕ, List, [], Option, Some, None, sym, subst}
use Rattle.std.specs.Prelude.{MatchResult, Result, Ok, Err}
use Rattle.disk.specs.Crashes.{History}
use Rattle.commit_log.specs.Log.{LogState}
use Rattle.outside.specs.Files.{Contents}
use Rattle.input_files.specs.Loads.{Loads}
use Rattle.store_model.specs.declared.event.Limits.{Limits}
use Rattle.store_model.specs.Store.{RecordedStore, empty_store}
use Rattle.session_model.specs.Sessions.{HasReplies}
use Rattle.session_files.proofs.Gathering.{unlogged_end}
use Rattle.session_files.specs.declared.fault.RunFault.{RunFault}
use Rattle.session_files.specs.declared.session_run.SessionRun.{SessionRun}
use Rattle.session_files.specs.Faults.{StopsRun}
use Rattle.session_files.specs.Logged.{AreLogged, run_over}
use Rattle.session_files.specs.Runs.{AreRun, IsOrderOf, LoadsAll, all_files, empty_start}

-- the store that a run without a log begins with
abbrev pub new_store : Limits → RecordedStore
new_store l = record { limits = l; start = empty_store; state = empty_store; history = [] }

are_run : {D : Type 0} (tells : Type 0) (bytes : D → List ℕ) (history : D → History) (chosen : D → Option (List ℕ)) (faults : D → ℕ) (held : Option Contents) (core : RecordedStore) (r : SessionRun) (before after : Loads) (text : List ℕ) (later : Option (LogState D)) → core ≡ new_store r.limits → r.history ≡ None
    → AreLogged tells bytes history chosen faults held [] core None r.files before after text later → AreRun held empty_start r None before after text
are_run tells bytes history chosen faults held core r before after text later new none a =
    let p = a.prints in
    let run = (unlogged_end tells bytes history chosen faults a.all core p.order p.replies p.last later p.ends).0 in
    let begin = subst (λ (c : RecordedStore). HasReplies a.all c.limits c.start p.order None p.replies) new run in (
      a.few,
      (a.all, p.order, a.sessions, subst (λ (h : Option (List ℕ)). IsOrderOf held h p.order) (sym none) tt, (p.replies, begin, p.printed)),
      subst (λ (h : Option (List ℕ)). LoadsAll (all_files h r.files) before after) (sym none) a.loads,
    )

over_new : (core : RecordedStore) (r : SessionRun) → core ≡ new_store r.limits → r.history ≡ None → run_over core r.files ≡ r
over_new core r new none = λ i. record { limits = (new i).limits; history = sym none i; files = r.files }

pub unlogged : {D S : Type 0} (of_string : S → List ℕ) (tells : Type 0) (bytes : D → List ℕ) (history : D → History) (chosen : D → Option (List ℕ)) (faults : D → ℕ) (held : Option Contents) (core : RecordedStore) (r : SessionRun) (before after : Loads) (text : Result S RunFault) (later : Option (LogState D)) → core ≡ new_store r.limits → r.history ≡ None
    → MatchResult text (λ t. AreLogged tells bytes history chosen faults held [] core None r.files before after (of_string t) later) (λ fault. StopsRun fault held [] (run_over core r.files) before after)
    → MatchResult text (λ t. AreRun held empty_start r None before after (of_string t)) (λ fault. StopsRun fault held [] r before after)
unlogged of_string tells bytes history chosen faults held core r before after (Ok t) later new none h = are_run tells bytes history chosen faults held core r before after (of_string t) later new none h
unlogged of_string tells bytes history chosen faults held core r before after (Err fault) later new none h = subst (λ (q : SessionRun). StopsRun fault held [] q before after) (over_new core r new none) h

-- session files in the order of a history
pub replayed : {S : Type 0} (of_string : S → List ℕ) (held : Option Contents) (r : SessionRun) (h : List ℕ) (names : List (List ℕ)) (before after : Loads) (text : Result S RunFault) → r.history ≡ Some h → names ≡ r.files
    → MatchResult text (λ t. AreRun held empty_start (record { limits = r.limits; history = Some h; files = names }) None before after (of_string t)) (λ fault. StopsRun fault held [] (record { limits = r.limits; history = Some h; files = names }) before after)
    → MatchResult text (λ t. AreRun held empty_start r None before after (of_string t)) (λ fault. StopsRun fault held [] r before after)
replayed of_string held r h names before after text e n answer =
    let same : record { limits = r.limits; history = Some h; files = names } ≡ r = λ i. record { limits = r.limits; history = sym e i; files = n i } in
    subst (λ (q : SessionRun). MatchResult text (λ t. AreRun held empty_start q None before after (of_string t)) (λ fault. StopsRun fault held [] q before after)) same answer
