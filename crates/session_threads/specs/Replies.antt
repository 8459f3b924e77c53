-- What a session is told of the store's answers. Want of memory is told to nobody.
use Rattle.std.specs.Prelude.{◌≡◌, ℕ, Bool, true, false, List, [], ◌∷◌, ◌++◌, Result, Ok, Err}
use Rattle.session_model.specs.declared.reply.SessionReply.{SessionReply}
use Rattle.session_model.specs.declared.reply.SessionReply.TheVariants as told
use Rattle.guard_store.specs.declared.faults.BeginFault.{BeginFault}
use Rattle.guard_store.specs.declared.faults.BeginFault.TheVariants as begins
use Rattle.guard_store.specs.declared.faults.StageFault.{StageFault}
use Rattle.guard_store.specs.declared.faults.AttachFault.{AttachFault}
use Rattle.guard_store.specs.declared.faults.AttachFault.TheVariants as attaches
use Rattle.guard_store.specs.declared.faults.FindFault.{FindFault}
use Rattle.guard_store.specs.declared.faults.FindFault.TheVariants as finds
use Rattle.guard_store.specs.declared.faults.ReportFault.{ReportFault}
use Rattle.guard_store.specs.declared.faults.ReportFault.TheVariants as reports
use Rattle.guard_store.specs.declared.faults.SelectFault.{SelectFault}
use Rattle.guard_store.specs.declared.faults.SelectFault.TheVariants as selects
use Rattle.guard_store.specs.Answers.{attach_fault}

-- the reply of an answer was added; one that has none isn't answered
abbrev pub Tells : {E : Type 0} → Result SessionReply E → List SessionReply → List SessionReply → Type 0
Tells (Ok r) old new = new ≡ old ++ r ∷ []
Tells (Err e) old new = ⊥

abbrev pub IsBeginReply : Result ℕ BeginFault → SessionReply → Type 0
IsBeginReply (Ok version) r = r ≡ told.Begun version
IsBeginReply (Err begins.AlreadyOpen) r = r ≡ told.AlreadyOpen
IsBeginReply (Err begins.Memory) r = ⊥

-- the reply to a block that wasn't staged
abbrev pub IsBlockRefusal : AttachFault → SessionReply → Type 0
IsBlockRefusal attaches.NoTransaction r = r ≡ told.NoTransaction
IsBlockRefusal (attaches.Unknown node) r = r ≡ told.UnknownNode node
IsBlockRefusal (attaches.Full count) r = r ≡ told.FullTerms
IsBlockRefusal attaches.Memory r = ⊥

abbrev pub IsStageReply : {U : Type 0} → Result U StageFault → SessionReply → SessionReply → Type 0
IsStageReply (Ok u) done r = r ≡ done
IsStageReply (Err f) done r = IsBlockRefusal (attach_fault f) r

abbrev pub IsBlockReply : {U : Type 0} → Result U AttachFault → SessionReply → SessionReply → Type 0
IsBlockReply (Ok u) done r = r ≡ done
IsBlockReply (Err f) done r = IsBlockRefusal f r

abbrev pub IsFindRefusal : FindFault → SessionReply → Type 0
IsFindRefusal finds.NoTransaction r = r ≡ told.NoTransaction
IsFindRefusal finds.Memory r = ⊥

abbrev pub IsReportRefusal : ReportFault → SessionReply → Type 0
IsReportRefusal reports.NoTransaction r = r ≡ told.NoTransaction
IsReportRefusal reports.Memory r = ⊥

abbrev pub IsSelectRefusal : SelectFault → SessionReply → Type 0
IsSelectRefusal selects.NoTransaction r = r ≡ told.NoTransaction
IsSelectRefusal selects.TooMany r = r ≡ told.SelectFull
IsSelectRefusal selects.Memory r = ⊥

abbrev pub IsAbortReply : Bool → SessionReply → Type 0
IsAbortReply true r = r ≡ told.Aborted
IsAbortReply false r = r ≡ told.NoTransaction
