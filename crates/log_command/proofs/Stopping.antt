-- Why the records restore no store, from what its parts answer.
use Rattle.std.proofs.Common.{◌≡◌, ◌∙◌, ℕ, false, List, length, refl, sym, ap, subst, inl, inr}
use Rattle.record_text.specs.declared.record.Record.{Record}
use Rattle.outside.specs.Faults.{Refusal}
use Rattle.shape_rules.specs.Broken.{IsWellFormed}
use Rattle.store_model.specs.declared.event.Limits.{Limits}
use Rattle.commit_core.specs.declared.restoring.RestoreFault.{RestoreFault}
use Rattle.commit_core.specs.declared.restoring.RestoreFault.TheVariants as restore
use Rattle.commit_core.specs.Restored.{IsRestoreFault}
use Rattle.commit_log.specs.Bad.{IsBad}
use Rattle.commit_log.specs.Log.{RefusesOpen}
use Rattle.commit_log.specs.declared.log.OpenLogFault.{OpenLogFault}
use Rattle.commit_log.specs.declared.log.OpenLogFault.TheVariants as opening
use Rattle.log_command.specs.declared.fault.LogFault.{LogFault}
use Rattle.log_command.specs.declared.fault.LogFault.TheVariants.{ReadFault, BadLog, Spent, Pattern, TooLarge, Memory}
use Rattle.log_command.specs.Nodes.{is_spent}
use Rattle.log_command.specs.Opened.{AreFound, StopsLog, of_open}
use Rattle.log_command.specs.Restoring.{StopsRestore, StopsShapes, last_shapes, of_restore}

pub by_shapes : (l : Limits) (records : List Record) (old new : List Refusal) (fault : LogFault) → is_spent records ≡ false → StopsShapes records old new fault → StopsRestore l records old new fault
by_shapes l records old new ReadFault u h = h
by_shapes l records old new (BadLog number) u h = (u, inl h.0, h.1)
by_shapes l records old new Spent u h = absurd h
by_shapes l records old new (Pattern node) u h = (u, h.0, h.1)
by_shapes l records old new TooLarge u h = absurd h
by_shapes l records old new Memory u h = h

by_records : (l : Limits) (records : List Record) (old new : List Refusal) (fault : RestoreFault) → is_spent records ≡ false → IsWellFormed (last_shapes records) → new ≡ old → IsRestoreFault l records fault
    → StopsRestore l records old new (of_restore fault (length records))
by_records l records old new (restore.Misfit number) u w same h = (u, inr (inl (w, h)), same)
by_records l records old new restore.TooLarge u w same h = (u, w, h, same)
by_records l records old new restore.Blocked u w same h = (u, inr (inr (w, h, refl)), same)
by_records l records old new restore.Memory u w same h = same

pub told_by_records : (l : Limits) (records : List Record) (old new : List Refusal) (fault : RestoreFault) (count : ℕ) (told : LogFault) → is_spent records ≡ false → IsWellFormed (last_shapes records) → new ≡ old → IsRestoreFault l records fault
    → count ≡ length records → told ≡ of_restore fault count → StopsRestore l records old new told
told_by_records l records old new fault count told u w same h n is =
    subst (λ (f : LogFault). StopsRestore l records old new f) (sym (is ∙ ap (of_restore fault) n)) (by_records l records old new fault u w same h)

-- of the log
pub by_restore : (tells : Type 0) (bytes : List ℕ) (l : Limits) (records : List Record) (old new : List Refusal) (fault : LogFault) → AreFound tells bytes records → StopsRestore l records old new fault → StopsLog tells bytes l old new fault
by_restore tells bytes l records old new ReadFault f h = absurd h
by_restore tells bytes l records old new (BadLog number) f h = inr (records, f, h)
by_restore tells bytes l records old new Spent f h = (records, f, h)
by_restore tells bytes l records old new (Pattern node) f h = (records, f, h)
by_restore tells bytes l records old new TooLarge f h = (records, f, h)
by_restore tells bytes l records old new Memory f h = h

-- of the disk
open_stops : (tells : Type 0) (bytes before : List ℕ) (l : Limits) (old : List Refusal) (fault : OpenLogFault) → (tells → before ≡ bytes) → (tells → RefusesOpen before fault) → StopsLog tells bytes l old old (of_open fault)
open_stops tells bytes before l old (opening.BadLog number) e h = inl (λ it. subst (λ (b : List ℕ). IsBad b number) (e it) (h it), refl)
open_stops tells bytes before l old opening.Failed e h = refl
open_stops tells bytes before l old opening.Memory e h = refl

pub open_stops_as : (tells : Type 0) (bytes before : List ℕ) (l : Limits) (old : List Refusal) (fault : OpenLogFault) (told : LogFault) → (tells → before ≡ bytes) → (tells → RefusesOpen before fault) → told ≡ of_open fault → StopsLog tells bytes l old old told
open_stops_as tells bytes before l old fault told e h is = subst (StopsLog tells bytes l old old) (sym is) (open_stops tells bytes before l old fault e h)
