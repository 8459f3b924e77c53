-- What a commit's answer gives.
use Rattle.std.proofs.Common.{◌≡◌, false, ap}
use Rattle.store_model.specs.declared.commit.Transaction.{Transaction}
use Rattle.store_model.specs.declared.event.Reply.{Reply}
use Rattle.store_model.specs.Logs.{is_fault}
use Rattle.store_model.specs.Store.{State}
use Rattle.session_transaction.specs.declared.committing.Committed.{Committed}
use Rattle.session_transaction.specs.declared.committing.Committed.TheVariants.{ReadOnly, Done, Conflict, FullTriples, Refused, LogFault, Stopped}
use Rattle.session_transaction.specs.Replies.{IsListed}
use Rattle.session_transaction.specs.Commits.{IsAnswer, IsNoFault}

-- the results of a refusal are a listing
pub listed_answer : (s : State) (x : Transaction) (r : Reply) (a : Committed) → IsAnswer s x r a → IsListed a
listed_answer s x r (ReadOnly v) h = absurd h
listed_answer s x r (Done n why) h = tt
listed_answer s x r (Conflict n t) h = tt
listed_answer s x r (FullTriples n) h = tt
listed_answer s x r LogFault h = tt
listed_answer s x r (Stopped v) h = tt
listed_answer s x r (Refused rows why shapes) h = (_, h.2)

-- where no log failed, the store's reply is no fault of one
pub sound_answer : (s : State) (x : Transaction) (r : Reply) (a : Committed) → IsAnswer s x r a → IsNoFault a → is_fault r ≡ false
sound_answer s x r (ReadOnly v) h none = absurd h
sound_answer s x r (Done n why) h none = ap is_fault h
sound_answer s x r (Conflict n t) h none = ap is_fault h
sound_answer s x r (FullTriples n) h none = ap is_fault h
sound_answer s x r LogFault h none = absurd none
sound_answer s x r (Stopped v) h none = ap is_fault h
sound_answer s x r (Refused rows why shapes) h none = ap is_fault h.0
