-- A session's open transaction, as its caller keeps it.
use Rattle.std.specs.Prelude.{◌≡◌, ℕ, ◌≤◌, List, [], ◌∷◌, ◌++◌, map, Option, Some, None, false}
use Rattle.rdf_model.specs.declared.term.Term.{Term}
use Rattle.rdf_model.specs.declared.triple.Triple.{Triple}
use Rattle.rdf_model.specs.declared.pattern.Pattern.{Pattern}
use Rattle.rdf_model.specs.declared.change.Change.{Change}
use Rattle.rdf_model.specs.Graphs.{after}
use Rattle.bgp_query.specs.declared.fault.JoinFault.{JoinFault}
use Rattle.bgp_query.specs.declared.fault.JoinFault.TheVariants.{TooMany, Memory}
use Rattle.bgp_query.specs.declared.pattern.JoinPattern.{JoinPattern}
use Rattle.bgp_query.specs.Selected.{AreTooMany}
use Rattle.bgp_query.specs.TermBindings.{opened}
use Rattle.store_model.specs.declared.commit.Transaction.{Transaction}
use Rattle.store_model.specs.declared.event.NameKind.{NameKind}
use Rattle.store_model.specs.declared.event.NameKind.TheVariants as kinds
use Rattle.store_model.specs.Snapshots.{Snapshot}
use Rattle.store_model.specs.Store.{State, NetNamed, StagedNamed, version}
use Rattle.session_model.specs.declared.command.Command.{Command}
use Rattle.session_model.specs.declared.command.Command.TheVariants.{Add, Remove, Attach}
use Rattle.session_model.specs.declared.reply.SessionReply.{SessionReply}
use Rattle.session_model.specs.declared.reply.SessionReply.TheVariants.{Added, Removed, Attached}
use Rattle.session_model.specs.Sessions as Sessions
use Rattle.session_model.specs.Sessions.{additions, removals}
use Rattle.session_transaction.specs.declared.transaction.OpenTransaction.{OpenTransaction}
use Rattle.session_transaction.specs.declared.transaction.ChangeKind.{ChangeKind}
use Rattle.session_transaction.specs.declared.transaction.ChangeKind.TheVariants.{Addition, Removal, Attachment}

abbrev pub changes_of : ChangeKind → List Triple → List Change
changes_of Addition ts = additions ts
changes_of Removal ts = removals ts
changes_of Attachment ts = additions ts

-- whose the blank nodes of such a block are
abbrev pub name_kind_of : ChangeKind → NameKind
name_kind_of Addition = kinds.Fresh
name_kind_of Removal = kinds.Known
name_kind_of Attachment = kinds.Attach

-- the command of a block of triples, and the reply to one of so many
abbrev pub command_of : ChangeKind → List Triple → Command
command_of Addition ts = Add ts
command_of Removal ts = Remove ts
command_of Attachment ts = Attach ts

abbrev pub reply_of : ChangeKind → ℕ → SessionReply
reply_of Addition count = Added count
reply_of Removal count = Removed count
reply_of Attachment count = Attached count

-- the transaction that begins at the snapshot
abbrev pub begun_at : Snapshot → OpenTransaction
begun_at n = record { transaction = record { base = n.number; net = []; staged = None; finds = []; verdict = None }; checked = None; hints = tt; snap = n }

-- what was checked before a change counts no more
abbrev pub with_changes : OpenTransaction → List Change → OpenTransaction
with_changes w net = record w { transaction = record w.transaction { net = w.transaction.net ++ net }; checked = None }

-- the shapes graph that was staged last counts
abbrev pub with_shapes : OpenTransaction → List Triple → OpenTransaction
with_shapes w ts = record w { transaction = record w.transaction { staged = Some ts }; checked = None }

-- a find's pattern is recorded
abbrev pub with_find : OpenTransaction → Pattern → OpenTransaction
with_find w p = record w { transaction = record w.transaction { finds = w.transaction.finds ++ p ∷ [] } }

-- so are the patterns of several
abbrev pub with_finds : OpenTransaction → List Pattern → OpenTransaction
with_finds w ps = record w { transaction = record w.transaction { finds = w.transaction.finds ++ ps } }

-- the graph at its begin with its changes so far
abbrev pub graph_so_far : OpenTransaction → List Triple
graph_so_far w = after w.snap.graph w.transaction.net

-- The bindings of the patterns were answered, or there were too many: each pattern, its variables open, is recorded. Without
-- memory for them all is as it was.
abbrev pub SelectsNot : JoinFault → List (JoinPattern Term) → OpenTransaction → OpenTransaction → Type 0
SelectsNot TooMany ps old new = AreTooMany (graph_so_far old) ps × (new ≡ with_finds old (map opened ps))
SelectsNot Memory ps old new = new ≡ old

-- the plain session's transaction; its commit has taken no head yet
abbrev pub plain : OpenTransaction → Sessions.OpenTransaction
plain w = record { transaction = w.transaction; graph = w.snap.graph; shapes = w.snap.shapes; head_taken = false }

abbrev pub plain_in : Option OpenTransaction → Option Sessions.OpenTransaction
plain_in None = None
plain_in (Some w) = Some (plain w)

-- The transaction began at a version of this store, its terms are named, and it has no verdict itself: that is kept beside it
-- until its commit.
pub record FitsState (x : Transaction) (s : State) : Type 0 where
  pub base : x.base ≤ version s
  pub net : NetNamed s.named x.net
  pub staged : StagedNamed s.named x.staged
  pub verdict : x.verdict ≡ None
