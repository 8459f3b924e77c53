-- A run over the store of a log, from what was opened and what was run.
use Rattle.std.proofs.Common.{◌≡◌, ◌∙◌, ◌++◌, ℕ, ◌≤◌, Bool, true, false, List, [], ◌∷◌, ◌||◌, length, map, Option, Some, refl, sym, ap, subst, arith, inl, inr, append-nil}
use Rattle.disk.specs.Crashes.{EachCrash, History}
use Rattle.disk.specs.Faults.{Rose}
use Rattle.record_text.specs.declared.record.Record.{Record}
use Rattle.commit_log.specs.Format.{Opens}
use Rattle.commit_log.specs.Log.{LogState}
use Rattle.outside.specs.Files.{Contents}
use Rattle.input_files.specs.Loads.{Loads}
use Rattle.store_model.specs.declared.event.Limits.{Limits}
use Rattle.store_model.specs.Logs.{has_fault}
use Rattle.store_model.specs.Store.{RecordedStore, State, empty_store, version}
use Rattle.store_model.proofs.Logs.{FaultsStop-holds}
use Rattle.commit_core.specs.Logged.{IsInStep, Lasts, lost_of, records_of}
use Rattle.commit_core.specs.Restored.{IsRestored, restored, restored_from, with_record}
use Rattle.session_files.specs.Slots.{HadRecords}
use Rattle.session_model.specs.Print.{IsRunText}
use Rattle.session_model.specs.Sessions.{HasReplies}
use Rattle.session_laws.specs.Following.{Follow, fault_place}
use Rattle.std.specs.List.{AllByRecursion}
use Rattle.std.specs.Prelude.{◌≢◌, IfErr, IsErrOf, MatchResult, Result, Ok, Err}
use Rattle.outside.specs.Faults.{Refusal}
use Rattle.session_files.specs.declared.fault.RunFault.{RunFault}
use Rattle.session_files.specs.declared.fault.RunFault.TheVariants as runs
use Rattle.session_files.specs.Faults.{StopsRun}
use Rattle.session_files.specs.Loading as files
use Rattle.session_files.specs.Logged.{AreLogged, run_over}
use Rattle.log_command.specs.Nodes as nodes
use Rattle.log_command.specs.Devices.{IsKept, seen}
use Rattle.log_command.specs.Opened.{IsStored}
use Rattle.shacl_guard.specs.declared.request.LoggedRun.{LoggedRun}
use Rattle.shacl_guard.specs.declared.request.LogRequest.TheVariants.{Logged}
use Rattle.shacl_guard.specs.declared.status.Status.{Status}
use Rattle.shacl_guard.specs.declared.status.Status.TheVariants.{Memory}
use Rattle.shacl_guard.specs.LogRuns.{GivesOfLog, IsAsFound, IsLoggedRun, StopsOfLog}
use Rattle.shacl_guard.specs.Statuses.{of_fault, of_run}

-- a count that rose after it didn't fall
rose_from : (a b c : ℕ) → a ≤ b → Rose b c → Rose a c
rose_from a b c le (inl lt) = inl (omega (arith, le, lt))
rose_from a b c le (inr (top, same)) = grind (arith, le, top, same)

-- the log had its records as the store began
had : {D : Type 0} (tells : Type 0) (bytes : D → List ℕ) (history : D → History) (l : Limits) (records : List Record) (core : RecordedStore) (log : LogState D) (chosen : Option (List ℕ)) (count : ℕ) → IsRestored l records core → IsInStep tells bytes history records core log
    → HadRecords tells (record { bytes = bytes log.disk; moment = (history log.disk).now; chosen = chosen; count = count }) records
had tells bytes history l records core log chosen count k step =
    let plain = subst (λ (s : RecordedStore). IsInStep tells bytes history records s log) k.store step in record {
      lasts = λ it. subst (λ (rs : List Record). EachCrash (λ image. Opens image rs) (history log.disk).now) (append-nil records) (plain.lasts it);
      shows = λ it. subst (λ (rs : List Record). Opens (bytes log.disk) rs) (append-nil records) (plain.shows it);
    }

running : (s : State) (rs : List Record) → (restored_from s rs).stopped ≡ s.stopped
running s [] = refl
running s (r ∷ rs) = running (with_record s r) rs

none_before : (a b c : Bool) → a ≡ false → c ≡ (a || b) → c ≡ b
none_before false b c e h = h
none_before true b c e h = cc

pub logged_run : {D : Type 0} (tells : Type 0) (bytes : D → List ℕ) (history : D → History) (chosen : D → Option (List ℕ)) (faults : D → ℕ) (held : Option Contents) (q : LoggedRun) (disk : D) (core : RecordedStore) (log later : LogState D) (firsts : List ℕ) (s : Status) (before after : Loads) (text : List ℕ)
    → IsStored tells bytes history q.run.limits disk (length q.run.files) core log firsts → chosen log.disk ≡ Some q.log → faults disk ≤ faults log.disk
    → AreLogged tells bytes history chosen faults held firsts core (Some log) q.run.files before after text (Some later) → s ≡ of_fault later.closed
    → IsLoggedRun tells held q s before after (seen bytes history chosen faults disk) (seen bytes history chosen faults later.disk) text
logged_run tells bytes history chosen faults held q disk core log later firsts s before after text stored name le a status =
    let records = stored.records in
    let k = stored.are_restored.store in
    let ends = a.prints.ends in
    let last = a.prints.last in
    let its = ends.leaves.its in
    let begin : last.start ≡ restored records = ends.leaves.start ∙ ap (λ (c : RecordedStore). c.start) k.store in
    let step = its.step records (had tells bytes history q.run.limits records core log (chosen log.disk) (faults log.disk) k stored.step) in
    let never : last.start.stopped ≡ false = ap (λ (t : State). t.stopped) begin ∙ running empty_store records in
    let stopped : last.state.stopped ≡ has_fault last.history = none_before last.start.stopped (has_fault last.history) last.state.stopped never (FaultsStop-holds last.limits last.start last.state last.history ends.leaves.replays) in
    let follow = subst (λ (c : RecordedStore). Follow a.all c.limits c.start last.history a.prints.replies) k.store ends.follow in
    let runs = subst (λ (order : List ℕ). HasReplies a.all core.limits core.start order (fault_place last.history) a.prints.replies) ends.order_is ends.ends.0 in
    record {
      few = a.few;
      records = records;
      core = core;
      firsts = firsts;
      opened = record { found = stored.found; are_restored = stored.are_restored };
      all = a.all;
      sessions = a.sessions;
      history = last.history;
      replies = a.prints.replies;
      follow = follow;
      runs = subst (λ (c : RecordedStore). HasReplies a.all c.limits c.start (map (λ e. e.session) last.history) (fault_place last.history) a.prints.replies) k.store runs;
      printed = subst (λ (order : List ℕ). IsRunText a.prints.replies order text) ends.order_is a.prints.printed;
      status_is = status ∙ ap of_fault (its.beside.closed ∙ stopped);
      blamed = λ failed. rose_from (faults disk) (faults log.disk) (faults later.disk) le (its.blamed (stopped ∙ failed));
      lasts = λ it. subst (λ (t : State). Lasts (records ++ records_of t.graph (version t) last.history) (lost_of t.graph (version t) last.history) (history later.disk).now) begin (step.lasts it);
      chosen_is = its.name ∙ name;
      loads = a.loads;
    }

-- Where its files aren't run.

-- the log that was given back is the one that was opened
pub given_back : {X L : Type 0} (r : Result X RunFault) (back : Option L) (log later : L) → back ≡ Some later → IfErr r (λ s. s ≢ runs.Memory → back ≡ Some log) → IfErr r (λ s. s ≢ runs.Memory → later ≡ log)
given_back (Ok x) back log later is h = tt
given_back (Err s) back log later is h = λ other. let same : Some later ≡ Some log = sym is ∙ h other in cc

-- so its disk is as it was found
as_found : {D : Type 0} (tells : Type 0) (bytes : D → List ℕ) (history : D → History) (chosen : D → Option (List ℕ)) (faults : D → ℕ) (l : Limits) (disk final : D) (sessions : ℕ) (core : RecordedStore) (log later : LogState D) (firsts : List ℕ) (stored : IsStored tells bytes history l disk sessions core log firsts)
    → IsKept tells (seen bytes history chosen faults disk) (seen bytes history chosen faults log.disk) → final ≡ later.disk → later ≡ log → IsAsFound tells stored.records (seen bytes history chosen faults disk) (seen bytes history chosen faults final)
as_found {D = D} tells bytes history chosen faults l disk final sessions core log later firsts stored kept disk_is same =
    let is : final ≡ log.disk = disk_is ∙ ap (λ (o : LogState D). o.disk) same in
    let found = had tells bytes history l stored.records core log (chosen log.disk) (faults log.disk) stored.are_restored.store stored.step in
    subst (λ (d : D). IsAsFound tells stored.records (seen bytes history chosen faults disk) (seen bytes history chosen faults d)) (sym is) (record { kept = kept; lasts = found.lasts })

-- What the run of an opened log is given.

unopened : (s : State) (rs : List Record) → (restored_from s rs).opened ≡ s.opened
unopened s [] = refl
unopened s (r ∷ rs) = unopened (with_record s r) rs

pub none_opened : (l : Limits) (records : List Record) (core : RecordedStore) → IsRestored l records core → core.start.opened ≡ 0
none_opened l records core k = ap (λ (c : RecordedStore). c.start.opened) k.store ∙ unopened empty_store records

pub first_numbers_fit : (ns : List ℕ) → AllByRecursion nodes.IsFirstNumber ns → AllByRecursion files.IsFirstNumber ns
first_numbers_fit [] a = tt
first_numbers_fit (n ∷ ns) a = (record { some = a.0.0; most = omega (arith, a.0.1) }, first_numbers_fit ns a.1)

-- The files were run, or weren't; the loads began with what was refused before the log was opened.
pub logged_answers : {D X S : Type 0} (of_status : X → Status) (of_text : X → List ℕ) (of_string : S → List ℕ) (tells : Type 0) (bytes : D → List ℕ) (history : D → History) (chosen : D → Option (List ℕ)) (faults : D → ℕ) (held : Option Contents) (q : LoggedRun) (disk final : D) (core : RecordedStore) (log later : LogState D) (firsts : List ℕ)
    (loaded failed : List (List ℕ)) (old mid : List Refusal) (after : Loads) (s : Status) (text : Result S RunFault) (r : Result X Status)
    → IsStored tells bytes history q.run.limits disk (length q.run.files) core log firsts → chosen log.disk ≡ Some q.log → IsKept tells (seen bytes history chosen faults disk) (seen bytes history chosen faults log.disk) → mid ≡ old → final ≡ later.disk → chosen later.disk ≡ chosen log.disk → s ≡ of_fault later.closed
    → IfErr text (λ fault. fault ≢ runs.Memory → later ≡ log)
    → MatchResult text (λ t. AreLogged tells bytes history chosen faults held firsts core (Some log) q.run.files (record { loaded = loaded; failed = failed; refused = mid }) after (of_string t) (Some later))
    (λ fault. StopsRun fault held firsts (run_over core q.run.files) (record { loaded = loaded; failed = failed; refused = mid }) after)
    → MatchResult text (λ t. MatchResult r (λ a. (of_status a ≡ s) × (of_text a ≡ of_string t)) (λ e. e ≡ Memory)) (λ fault. IsErrOf r (of_run fault))
    → MatchResult r (λ a. GivesOfLog tells held (Logged q) (of_status a) (record { loaded = loaded; failed = failed; refused = old }) after (seen bytes history chosen faults disk) (seen bytes history chosen faults final) (of_text a))
    (λ e. StopsOfLog tells held (Logged q) e (record { loaded = loaded; failed = failed; refused = old }) after (seen bytes history chosen faults disk) (seen bytes history chosen faults final))
logged_answers {D = D} of_status of_text of_string tells bytes history chosen faults held q disk final core log later firsts loaded failed old mid after s (Ok t) (Ok a) stored name kept same disk_is chose status back run answer =
    let now = subst (λ (xs : List Refusal). AreLogged tells bytes history chosen faults held firsts core (Some log) q.run.files (record { loaded = loaded; failed = failed; refused = xs }) after (of_string t) (Some later)) same run in
    let it = logged_run tells bytes history chosen faults held q disk core log later firsts (of_status a) (record { loaded = loaded; failed = failed; refused = old }) after (of_string t) stored name kept.count now (answer.0 ∙ status) in
    let there = subst (λ (d : D). IsLoggedRun tells held q (of_status a) (record { loaded = loaded; failed = failed; refused = old }) after (seen bytes history chosen faults disk) (seen bytes history chosen faults d) (of_string t)) (sym disk_is) it in
    subst (λ (x : List ℕ). IsLoggedRun tells held q (of_status a) (record { loaded = loaded; failed = failed; refused = old }) after (seen bytes history chosen faults disk) (seen bytes history chosen faults final) x) (sym answer.1) there
logged_answers {D = D} of_status of_text of_string tells bytes history chosen faults held q disk final core log later firsts loaded failed old mid after s (Ok t) (Err e) stored name kept same disk_is chose status back run answer = inr (inr (record {
  records = stored.records;
  core = core;
  firsts = firsts;
  opened = record { found = stored.found; are_restored = stored.are_restored };
  fault = runs.Memory;
  status_is = answer;
  stops = ((length q.run.files, run.loads.0), run.loads.1);
  kept = λ other. absurd (other refl);
  chosen_is = ap chosen disk_is ∙ chose ∙ name;
}))
logged_answers {D = D} of_status of_text of_string tells bytes history chosen faults held q disk final core log later firsts loaded failed old mid after s (Err fault) (Err e) stored name kept same disk_is chose status back run answer = inr (inr (record {
  records = stored.records;
  core = core;
  firsts = firsts;
  opened = record { found = stored.found; are_restored = stored.are_restored };
  fault = fault;
  status_is = let is : Err e ≡ Err (of_run fault) = answer in cc;
  stops = subst (λ (xs : List Refusal). StopsRun fault held firsts (run_over core q.run.files) (record { loaded = loaded; failed = failed; refused = xs }) after) same run;
  kept = λ other. as_found tells bytes history chosen faults q.run.limits disk final (length q.run.files) core log later firsts stored kept disk_is (back other);
  chosen_is = ap chosen disk_is ∙ chose ∙ name;
}))
logged_answers {D = D} of_status of_text of_string tells bytes history chosen faults held q disk final core log later firsts loaded failed old mid after s (Err fault) (Ok a) stored name kept same disk_is chose status back run answer = let no : Ok a ≡ Err (of_run fault) = answer in cc
