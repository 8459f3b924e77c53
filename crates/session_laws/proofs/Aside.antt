-- A verdict changes nothing that a session is told.
use Rattle.std.proofs.Common.{◌≡◌, ◌∙◌, ℕ, List, Option, Some, None, refl}
use Rattle.rdf_model.specs.declared.triple.Triple.{Triple}
use Rattle.shape_model.specs.declared.result_row.ResultRow.{ResultRow}
use Rattle.store_model.specs.declared.commit.Accepted.{Accepted}
use Rattle.store_model.specs.declared.commit.Again.{Again}
use Rattle.store_model.specs.declared.event.Limits.{Limits}
use Rattle.store_model.specs.declared.event.Action.{Action}
use Rattle.store_model.specs.declared.event.Action.TheVariants as actions
use Rattle.store_model.specs.declared.event.Reply.{Reply}
use Rattle.store_model.specs.declared.event.Reply.TheVariants.{Refused, Done}
use Rattle.store_model.specs.Logs.{is_fault}
use Rattle.store_model.specs.Store.{State, StepOf}
use Rattle.session_model.specs.declared.command.Command.{Command}
use Rattle.session_model.specs.declared.command.Command.TheVariants.{Commit}
use Rattle.session_model.specs.declared.reply.SessionReply.{SessionReply}
use Rattle.session_model.specs.Sessions.{OpenTransaction, SessionState, GoesOn, after_reply}
use Rattle.store_laws.specs.Verdicts.{unaided as reply_unaided}
use Rattle.store_laws.proofs.Verdicts.{VerdictAside-holds}
use Rattle.session_laws.specs.Following.{unaided}

-- why a commit evaluates again is told to no session
same_done : (s : State) (w : Option OpenTransaction) (c : Command) (cs : List Command) (replies : List SessionReply) (n : ℕ) (a b : Again) → after_reply s w c cs replies (Done n a) ≡ after_reply s w c cs replies (Done n b)
same_done s None Commit cs replies n a b = refl
same_done s (Some w) Commit cs replies n a b = refl
same_done s w c cs replies n a b = refl

same_refused : (s : State) (w : Option OpenTransaction) (c : Command) (cs : List Command) (replies : List SessionReply) (rows : List ResultRow) (a b : Again) → after_reply s w c cs replies (Refused rows a) ≡ after_reply s w c cs replies (Refused rows b)
same_refused s None Commit cs replies rows a b = refl
same_refused s (Some w) Commit cs replies rows a b = refl
same_refused s w c cs replies rows a b = refl

pub same_told : (s : State) (w : Option OpenTransaction) (c : Command) (cs : List Command) (replies : List SessionReply) (commits : List Accepted) (staged : Option (List Triple)) (r : Reply) → after_reply s w c cs replies (reply_unaided commits staged r) ≡ after_reply s w c cs replies r
same_told s w c cs replies commits staged (Refused rows why) = same_refused s w c cs replies rows _ why
same_told s w c cs replies commits staged (Done n why) = same_done s w c cs replies n _ why
same_told s w c cs replies commits staged r = refl

-- nor is whether the log failed another
same_fault : (commits : List Accepted) (staged : Option (List Triple)) (r : Reply) → is_fault (reply_unaided commits staged r) ≡ is_fault r
same_fault commits staged (Refused rows why) = refl
same_fault commits staged (Done n why) = refl
same_fault commits staged r = refl

-- an event with its verdict aside is a step too, and its session goes on alike
pub goes_aside : (l : Limits) (s t : State) (i : ℕ) (a : Action) (r : Reply) (w : Option OpenTransaction) (c : Command) (cs : List Command) (replies : List SessionReply) (q : SessionState) → StepOf l s i a r t → GoesOn s w c cs replies (unaided a) r q
    → (u : Reply) × GoesOn s w c cs replies (unaided a) u q × StepOf l s i (unaided a) u t × (is_fault u ≡ is_fault r)
goes_aside l s t i actions.Open r w c cs replies q h g = (r, g, h, refl)
goes_aside l s t i actions.Begin r w c cs replies q h g = (r, g, h, refl)
goes_aside l s t i (actions.Name kind ts) r w c cs replies q h g = (r, g, h, refl)
goes_aside l s t i actions.Head r w c cs replies q h g = (r, g, h, refl)
goes_aside l s t i actions.Void r w c cs replies q h g = (r, g, h, refl)
goes_aside l s t i (actions.Commit x) r w c cs replies q h g =
    (reply_unaided s.commits x.staged r, record { event = g.event; next = same_told s w c cs replies s.commits x.staged r ∙ g.next }, VerdictAside-holds l s t i x r h, same_fault s.commits x.staged r)
