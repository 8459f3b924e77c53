-- What a gate is told of a session's events.
use Rattle.std.specs.Prelude.{Bool, true, false, Option, Some, None, Result, Ok, Err, option_map}
use Rattle.outside.specs.declared.gate.EventKind.{EventKind}
use Rattle.outside.specs.declared.gate.EventKind.TheVariants as kinds
use Rattle.store_model.specs.declared.commit.Again.{Again}
use Rattle.store_model.specs.declared.commit.Again.TheVariants.{No, OwnShapes, NoVerdict, ShapesChanged, Touched}
use Rattle.store_model.specs.declared.event.Action.{Action}
use Rattle.store_model.specs.declared.event.Action.TheVariants as actions
use Rattle.session_model.specs.declared.command.Command.{Command}
use Rattle.session_model.specs.Sessions.{LocalAnswer, OpenTransaction, action_of, local_answer}
use Rattle.guard_store.specs.declared.faults.CommitFault.{CommitFault}
use Rattle.session_transaction.specs.declared.committing.Committed.{Committed}
use Rattle.session_transaction.specs.declared.committing.Committed.TheVariants.{ReadOnly, Done, Conflict, FullTriples, Refused, LogFault, Stopped}

abbrev pub kind_of : Action → EventKind
kind_of actions.Open = kinds.Open
kind_of actions.Begin = kinds.Begin
kind_of (actions.Name kind ts) = kinds.Name
kind_of actions.Head = kinds.Head
kind_of (actions.Commit x) = kinds.Commit
kind_of actions.Void = kinds.Void

abbrev pub event_unless : Option LocalAnswer → Option Action → Option EventKind
event_unless None a = option_map kind_of a
event_unless (Some answer) a = None

-- the next event of a session at this command, which is none where the session answers by itself
abbrev pub event_kind : Option OpenTransaction → Command → Option EventKind
event_kind w c = event_unless (local_answer w c) (action_of w c)

abbrev pub is_no : Again → Bool
is_no No = true
is_no OwnShapes = false
is_no NoVerdict = false
is_no (ShapesChanged n) = false
is_no (Touched n t) = false

abbrev pub is_ready_as : Committed → Bool
is_ready_as (ReadOnly v) = false
is_ready_as (Done n why) = is_no why
is_ready_as (Conflict n t) = false
is_ready_as (FullTriples n) = false
is_ready_as LogFault = false
is_ready_as (Stopped v) = false
is_ready_as (Refused rows why shapes) = is_no why

-- a commit that was accepted, or refused, and not evaluated again
abbrev pub is_ready : Result Committed CommitFault → Bool
is_ready (Ok answer) = is_ready_as answer
is_ready (Err fault) = false
