-- What a session is told of its commands that are no events, and of its commits.
use Rattle.std.specs.Prelude.{◌≡◌, List, length, Option, Some, None}
use Rattle.rdf_model.specs.declared.triple.Triple.{Triple}
use Rattle.report_writer.specs.Report.{report_text}
use Rattle.shape_model.specs.Validation.{Listing}
use Rattle.session_model.specs.declared.command.Command.{Command}
use Rattle.session_model.specs.declared.command.Command.TheVariants.{Begin, Add, BadAdd, Remove, BadRemove, Attach, BadAttach, Shapes, BadShapes, BrokenShapes, RefusedPattern, Commit, Find, Select, BadSelect, Report, Abort}
use Rattle.session_model.specs.declared.reply.SessionReply.{SessionReply}
use Rattle.session_model.specs.declared.reply.SessionReply.TheVariants as told
use Rattle.session_model.specs.Sessions.{OpenTransaction}
use Rattle.session_transaction.specs.declared.committing.Committed.{Committed}
use Rattle.session_transaction.specs.declared.committing.Committed.TheVariants.{ReadOnly, Done, Conflict, FullTriples, Refused, LogFault, Stopped}

-- what a command that changes nothing is answered
abbrev pub answer_in : Option OpenTransaction → SessionReply → SessionReply
answer_in None reply = told.NoTransaction
answer_in (Some w) reply = reply

-- the reply to a command whose block can't be read, isn't well-formed, has a pattern that was refused, or has a line that is
-- no pattern of a select, within a transaction
abbrev pub IsRefused : Command → SessionReply → Type 0
IsRefused Begin r = ⊥
IsRefused (Add ts) r = ⊥
IsRefused (BadAdd n kind) r = r ≡ told.AddRefused n kind
IsRefused (Remove ts) r = ⊥
IsRefused (BadRemove n kind) r = r ≡ told.RemoveRefused n kind
IsRefused (Attach ts) r = ⊥
IsRefused (BadAttach n kind) r = r ≡ told.AttachRefused n kind
IsRefused (Shapes ts) r = ⊥
IsRefused (BadShapes n kind) r = r ≡ told.ShapesRefused n kind
IsRefused (BrokenShapes rule node) r = r ≡ told.ShapesBroken rule node
IsRefused (RefusedPattern node) r = r ≡ told.PatternRefused node
IsRefused Commit r = ⊥
IsRefused (Find p) r = ⊥
IsRefused (Select ps) r = ⊥
IsRefused (BadSelect n) r = r ≡ told.SelectRefused n
IsRefused Report r = ⊥
IsRefused Abort r = ⊥

-- such a command
abbrev pub IsRefusedBlock : Command → Type 0
IsRefusedBlock c = (r : SessionReply) × IsRefused c r

-- the results of a refusal are those of a graph under the shapes
abbrev pub IsListed : Committed → Type 0
IsListed (ReadOnly v) = Unit {0}
IsListed (Done n why) = Unit {0}
IsListed (Conflict n t) = Unit {0}
IsListed (FullTriples n) = Unit {0}
IsListed LogFault = Unit {0}
IsListed (Stopped v) = Unit {0}
IsListed (Refused rows why shapes) = (graph : List Triple) × Listing graph shapes rows

abbrev pub IsCommitReply : Committed → SessionReply → Type 0
IsCommitReply (ReadOnly v) r = r ≡ told.ReadOnly v
IsCommitReply (Done n why) r = r ≡ told.Committed n
IsCommitReply (Conflict n t) r = r ≡ told.Overtaken n t
IsCommitReply (FullTriples n) r = r ≡ told.FullGraph
IsCommitReply LogFault r = r ≡ told.LogFailed
IsCommitReply (Stopped v) r = r ≡ told.Stopped v
IsCommitReply (Refused rows why shapes) r = r ≡ told.Refused (length rows) (report_text shapes rows)
