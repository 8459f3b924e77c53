-- A player may go to another thread, and threads may share the store.
use Rattle.std.proofs.Crossing as crossing
use Rattle.std.proofs.Crossing.{crosses}
use denote.Param.Send.{IsSend, IsSync, sendable, shr_sync, view_send}
use denote.Param.SendFields.{as_row_send, as_row_sync, declared_send, declared_sync}
use denote.RattleType.{RattleType}
use denote.Exit.{no}
use denote.Param.{arg, param}
use denote.Ref.{NamedLft, ShrRef}
use denote.Struct.Field.{row_field}
use denote.Struct.Tuple.{TupleAt, type_at}
use mir.Syntax.{Sym, Ty}
use mathlib.Core.List.{[], ◌∷◌}
use Rattle.std.specs.contracts.alloc.Global as heap
use Rattle.event_history.proofs.row.KeptEvents.TheLaws.TheKnot as kept_knot
use Rattle.page_tree.proofs.page.Entry.TheLaws.TheKnot as page_knot
use Rattle.page_index.specs.contracts.pages.Pages as pages
use Rattle.growing_list.specs.contracts.growing.GrowingList as growing
use Rattle.session_threads.proofs.ShapesCrossing as compiled
use Rattle.rdf_text.proofs.text.Text.TheSendSync as text_sent
use Rattle.rdf_model.proofs.term.Term.TheSendSync as term_sent
use Rattle.rdf_model.proofs.triple.Triple.TheSendSync as triple_sent
use Rattle.rdf_model.proofs.pattern.Pattern.TheSendSync as pattern_sent
use Rattle.rdf_model.proofs.look.Look.TheSendSync as look_sent
use Rattle.numbered_lists.proofs.net.Net.TheSendSync as net_sent
use Rattle.numbered_lists.proofs.triples.TripleList.TheSendSync as list_sent
use Rattle.rdf_model.specs.contracts.term.Term as term
use Rattle.rdf_model.specs.contracts.term.TermOrd.TheImpl as term_order
use Rattle.rdf_model.specs.contracts.term.TermPartialEq.TheImpl as term_equality
use Rattle.rdf_model.specs.contracts.term.TermPartialOrd.TheImpl as term_comparison
use Rattle.rdf_model.specs.contracts.triple.Triple as triple
use Rattle.term_dict.proofs.entry.NamedTerm.TheSendSync as named_sent
use Rattle.term_dict.proofs.entry.ByHash.TheSendSync as by_hash_sent
use Rattle.term_dict.specs.contracts.entry.NamedTerm as named
use Rattle.term_dict.specs.contracts.entry.ByHash as by_hash
use Rattle.term_dict.specs.contracts.entry.ByHashOrd.TheImpl as by_hash_order
use Rattle.term_dict.specs.contracts.entry.ByHashPartialEq.TheImpl as by_hash_equality
use Rattle.term_dict.specs.contracts.entry.ByHashPartialOrd.TheImpl as by_hash_comparison
use Rattle.term_dict.specs.contracts.dict.Dict as dict
use Rattle.triple_index.proofs.key.Key.TheSendSync as key_sent
use Rattle.triple_index.specs.contracts.key.Key as key
use Rattle.triple_index.specs.contracts.key.KeyOrd.TheImpl as key_order
use Rattle.triple_index.specs.contracts.key.KeyPartialEq.TheImpl as key_equality
use Rattle.triple_index.specs.contracts.key.KeyPartialOrd.TheImpl as key_comparison
use Rattle.triple_index.specs.contracts.index.Index as index
use Rattle.bound_shapes.specs.contracts.bound.BoundShapes as bound_shapes
use Rattle.data_graph.specs.contracts.graph.DataGraph as data_graph
use Rattle.kept_rows.proofs.kept_row.KeptRow.TheSendSync as kept_row_sent
use Rattle.kept_rows.proofs.pair_rows.PairRows.TheSendSync as pair_rows_sent
use Rattle.kept_rows.specs.contracts.kept_row.KeptRow as kept_row
use Rattle.kept_rows.specs.contracts.kept_row.KeptRowOrd.TheImpl as kept_row_order
use Rattle.kept_rows.specs.contracts.kept_row.KeptRowPartialEq.TheImpl as kept_row_equality
use Rattle.kept_rows.specs.contracts.kept_row.KeptRowPartialOrd.TheImpl as kept_row_comparison
use Rattle.kept_rows.specs.contracts.kept_rows.KeptRows as kept_rows
use Rattle.data_graph.specs.contracts.validated.ValidatedGraph as validated_graph
use Rattle.shapes_graph.specs.contracts.graph.Content as content
use Rattle.shapes_graph.specs.contracts.graph.ShapesGraph as shapes
use Rattle.store_model.specs.contracts.event.Reply as answer
use Rattle.store_model.specs.contracts.commit.Again as again
use Rattle.shape_model.proofs.result_row.ResultRow.TheSendSync as row_sent
use Rattle.store_model.specs.contracts.commit.Verdict as verdict
use Rattle.store_model.specs.contracts.commit.Transaction as transaction
use Rattle.store_model.specs.contracts.event.Action as action
use Rattle.store_model.specs.contracts.event.Event as event
use Rattle.event_history.specs.contracts.kept.NamedBlock as named_block
use Rattle.event_history.specs.contracts.kept.AcceptedCommit as accepted_commit
use Rattle.event_history.specs.contracts.kept.KeptEvent as kept_event
use Rattle.event_history.specs.contracts.row.KeptEvents as kept_events
use Rattle.event_history.specs.contracts.history.History as history
use Rattle.snapshot_store.specs.contracts.kept.KeptCommit as kept_commit
use Rattle.snapshot_store.specs.contracts.commits.Commits as commits
use Rattle.disk.specs.declared.device.Disk as disks
use Rattle.commit_log.proofs.log.Log.TheSendSync as log_sent
use Rattle.turn_lock.proofs.turns.Pass.TheSendSync as pass_sent
use Rattle.turn_lock.proofs.turns.Turns.TheSendSync as turns_sent
use Rattle.session_model.specs.contracts.reply.SessionReply as reply
use Rattle.session_model.specs.contracts.report.Report as report
use Rattle.session_model.specs.contracts.command.Command as command
use Rattle.bgp_query.specs.contracts.pattern.Part as part
use Rattle.bgp_query.specs.contracts.pattern.JoinPattern as join_pattern
use Rattle.collections.proofs.sequence.Sequence.TheSendSync as sequence_sent
use Rattle.commit_core.specs.contracts.checked.CheckedNet as checked
use Rattle.commit_core.specs.contracts.snapshot.Snap as snap
use Rattle.commit_core.specs.contracts.store.Core as core
use Rattle.record_text.specs.contracts.record.Record as record_row
use Rattle.commit_log.specs.contracts.log.Log as log_row
use Rattle.guard_store.specs.contracts.shared.Shared as shared
use Rattle.guard_store.specs.contracts.shared.Shared.TheInside as inside
use Rattle.session_transaction.specs.contracts.transaction.OpenTransaction as open_transaction
use Rattle.std.proofs.option.Option.TheSendSync as option_sent
use Rattle.guard_store.specs.contracts.session.Session as session
use Rattle.guard_store.specs.contracts.session.Session.TheInside as session_inside
use Rattle.session_threads.specs.contracts.team.Player.TheInside as player_inside
use Rattle.guard_store.specs.contracts.store.Store as store
use Rattle.session_threads.specs.contracts.team.Player as player

content_send : IsSend content.the_row
content_send = declared_send content.the_type (search (triple_sent.the_send, sequence_sent.the_send, crosses, sendable) depth 60 fits 20000, (compiled.shapes_send, tt))

content_sync : IsSync content.the_row
content_sync = declared_sync content.the_type (search (triple_sent.the_sync, sequence_sent.the_sync, crosses, sendable) depth 60 fits 20000, (compiled.shapes_sync, tt))

shapes_send : IsSend shapes.the_row
shapes_send = search (content_send, content_sync, crosses, sendable) depth 60 fits 20000

shapes_sync : IsSync shapes.the_row
shapes_sync = search (content_send, content_sync, crosses, sendable) depth 60 fits 20000

given_send : IsSend (pages.the_row term.the_row term_order.ghosts term_equality.ghosts term_comparison.ghosts)
given_send = search (page_knot.crosses, term_sent.the_send, term_sent.the_sync, crosses, sendable) depth 60 fits 20000

names_send : IsSend (growing.the_row named.the_row)
names_send = search (named_sent.the_send, named_sent.the_sync, crosses, sendable) depth 60 fits 20000

by_hash_send : IsSend (pages.the_row by_hash.the_row by_hash_order.ghosts by_hash_equality.ghosts by_hash_comparison.ghosts)
by_hash_send = search (page_knot.crosses, by_hash_sent.the_send, by_hash_sent.the_sync, crosses, sendable) depth 60 fits 20000

dict_send : IsSend dict.the_row
dict_send = search (names_send, by_hash_send, crosses, sendable) depth 60 fits 20000

keys_send : IsSend (pages.the_row key.the_row key_order.ghosts key_equality.ghosts key_comparison.ghosts)
keys_send = search (page_knot.crosses, key_sent.the_send, key_sent.the_sync, crosses, sendable) depth 60 fits 20000

index_send : IsSend index.the_row
index_send = search (keys_send, crosses, sendable) depth 60 fits 20000

bound_shapes_send : IsSend bound_shapes.the_row
bound_shapes_send = search (shapes_send, compiled.planned_send, compiled.planned_sync, crosses, sendable) depth 60 fits 20000

data_graph_send : IsSend data_graph.the_row
data_graph_send = search (dict_send, index_send, bound_shapes_send, crosses, sendable) depth 60 fits 20000

kept_pages_send : IsSend (pages.the_row kept_row.the_row kept_row_order.ghosts kept_row_equality.ghosts kept_row_comparison.ghosts)
kept_pages_send = search (page_knot.crosses, kept_row_sent.the_send, kept_row_sent.the_sync, crosses, sendable) depth 60 fits 20000

kept_rows_send : IsSend kept_rows.the_row
kept_rows_send = search (kept_pages_send, crosses, sendable) depth 60 fits 20000

validated_graph_send : IsSend validated_graph.the_row
validated_graph_send = search (data_graph_send, kept_rows_send, crosses, sendable) depth 60 fits 20000

verdict_send : IsSend verdict.the_row
verdict_send = search (look_sent.the_send, term_sent.the_send, sequence_sent.the_send, crosses, sendable) depth 60 fits 20000

transaction_send : IsSend (transaction.the_field).row
transaction_send = search (net_sent.the_send, shapes_send, pattern_sent.the_send, verdict_send, sequence_sent.the_send, crosses, sendable) depth 60 fits 20000

action_send : IsSend (action.the_field).row
action_send = search (term_sent.the_send, transaction_send, sequence_sent.the_send, crosses, sendable) depth 60 fits 20000

triple_send : IsSend (triple.the_field).row
triple_send = search (crosses, sendable) depth 60 fits 20000

again_send : IsSend (again.the_field).row
again_send = search (crosses, sendable) depth 60 fits 20000

answer_send : IsSend (answer.the_field).row
answer_send = search (triple_send, again_send, term_sent.the_send, row_sent.the_send, sequence_sent.the_send, crosses, sendable) depth 60 fits 20000

event_send : IsSend (event.the_field).row
event_send = search (action_send, answer_send, crosses, sendable) depth 60 fits 20000

named_block_send : IsSend (named_block.the_field).row
named_block_send = search (sequence_sent.the_send, crosses, sendable) depth 60 fits 20000

accepted_commit_send : IsSend (accepted_commit.the_field).row
accepted_commit_send = search (transaction_send, answer_send, sequence_sent.the_send, crosses, sendable) depth 60 fits 20000

kept_event_send : IsSend (kept_event.the_field).row
kept_event_send = search (event_send, named_block_send, accepted_commit_send, crosses, sendable) depth 60 fits 20000

kept_events_send : IsSend kept_events.the_row
kept_events_send = search (kept_event_send, kept_knot.crosses, crosses, sendable) depth 60 fits 20000

history_send : IsSend history.the_row
history_send = search (dict_send, kept_events_send, crosses, sendable) depth 60 fits 20000

kept_commit_send : IsSend (kept_commit.the_field).row
kept_commit_send = search (sequence_sent.the_send, crosses, sendable) depth 60 fits 20000

commits_send : IsSend commits.the_row
commits_send = search (dict_send, kept_commit_send, crosses, sendable) depth 60 fits 20000

record_send : IsSend record_row.the_row
record_send = search (triple_sent.the_send, sequence_sent.the_send, crosses, sendable) depth 60 fits 20000

core_send : IsSend core.the_row
core_send = search (record_send, validated_graph_send, shapes_send, given_send, commits_send, history_send, crosses, sendable) depth 60 fits 20000

log_send : (D : RattleType) (d : disks.Ghosts D.Denot) → IsSend D → IsSend (log_row.the_row D d)
log_send D d sent = search (log_sent.the_send, sent, crosses, sendable) depth 60 fits 20000

inside_send : (D : RattleType) (d : disks.Ghosts D.Denot) → IsSend D → IsSend (inside.the_row D d)
inside_send D d sent = declared_send (inside.the_type D d) (
  search (core_send, crosses, sendable) depth 60 fits 20000,
  (search (option_sent.the_send, log_send D d sent, crosses, sendable) depth 60 fits 20000, (search (crosses, sendable) depth 60 fits 20000, tt)),
)

shared_send : (D : RattleType) (d : disks.Ghosts D.Denot) → IsSend D → IsSend (shared.the_row D d)
shared_send D d sent = search (inside_send D d sent, view_send) depth 60

snap_send : IsSend snap.the_row
snap_send = search (validated_graph_send, shapes_send, crosses, sendable) depth 60 fits 20000

checked_send : IsSend checked.the_row
checked_send = search (verdict_send, pair_rows_sent.the_send, sequence_sent.the_send, crosses, sendable) depth 60 fits 20000

open_send : IsSend open_transaction.the_row
open_send = search (transaction_send, checked_send, snap_send, crosses, sendable) depth 60 fits 20000

session_inside_send : (D : RattleType) (d : disks.Ghosts D.Denot) → IsSend D → IsSend (session_inside.the_row D d)
session_inside_send D d sent = declared_send (session_inside.the_type D d) (
  search (pass_sent.the_send, shared_send D d sent, as_row_send, crosses, sendable) depth 60 fits 20000,
  (
    search (crosses, sendable) depth 60 fits 20000,
    (search (open_send, crosses, sendable) depth 60 fits 20000, (search (snap_send, crosses, sendable) depth 60 fits 20000, tt)),
  ),
)

session_send : (D : RattleType) (d : disks.Ghosts D.Denot) → IsSend D → IsSend (session.the_row D d)
session_send D d sent = search (session_inside_send D d sent, view_send) depth 60

report_send : IsSend report.the_row
report_send = search (dict_send, index_send, shapes_send, row_sent.the_send, sequence_sent.the_send, crosses, sendable) depth 60 fits 20000

reply_send : IsSend (reply.the_field).row
reply_send = search (text_sent.the_send, triple_send, report_send, crosses, sendable) depth 60 fits 20000

part_send : IsSend (part.the_row term.the_row)
part_send = search (term_sent.the_send, crosses, sendable) depth 60 fits 20000

join_send : IsSend (join_pattern.the_row term.the_row)
join_send = search (part_send, crosses, sendable) depth 60 fits 20000

command_send : IsSend command.the_row
command_send = search (join_send, text_sent.the_send, list_sent.the_send, shapes_send, term_sent.the_send, sequence_sent.the_send, crosses, sendable) depth 60 fits 20000

player_inside_send : (D : RattleType) (d : disks.Ghosts D.Denot) → IsSend D → IsSend (player_inside.the_row D d)
player_inside_send D d sent = declared_send (player_inside.the_type D d) (
  search (option_sent.the_send, session_send D d sent, crosses, sendable) depth 60 fits 20000,
  (
    search (crosses, sendable) depth 60 fits 20000,
    (search (command_send, sequence_sent.the_send, crosses, sendable) depth 60 fits 20000, (search (reply_send, sequence_sent.the_send, crosses, sendable) depth 60 fits 20000, tt)),
  ),
)

pub player_send : (D : RattleType) (d : disks.Ghosts D.Denot) → IsSend D → IsSend (player.the_row D d)
player_send D d sent = search (player_inside_send D d sent, view_send) depth 60

store_sync : (D : RattleType) (d : disks.Ghosts D.Denot) → IsSend D → IsSync (store.the_row D d)
store_sync D d sent = search (turns_sent.the_sync, shared_send D d sent, crosses, sendable) depth 60 fits 20000

four_sync : (ν : Sym) (A B C D : RattleType) → IsSync A → IsSync B → IsSync C → IsSync D → IsSync (TupleAt ν (A ∷ B ∷ C ∷ D ∷ []))
four_sync ν A B C D a b c d =
    declared_sync (type_at ν (A ∷ B ∷ C ∷ D ∷ [])) (as_row_sync (row_field A) a, (as_row_sync (row_field B) b, (as_row_sync (row_field C) c, (as_row_sync (row_field D) d, tt))))

-- what all threads see: the runtime, the allocator, the store and the gate
held_sync : (ν : Sym) (α β γ δ : NamedLft) (R G D : RattleType) (d : disks.Ghosts D.Denot) → IsSync R → IsSync G → IsSend D
    → IsSync (TupleAt ν (ShrRef α.mir α.lft R ∷ ShrRef β.mir β.lft heap.the_row ∷ ShrRef γ.mir γ.lft (store.the_row D d) ∷ ShrRef δ.mir δ.lft G ∷ []))
held_sync ν α β γ δ R G D d run gate sent =
    four_sync ν (ShrRef α.mir α.lft R) (ShrRef β.mir β.lft heap.the_row) (ShrRef γ.mir γ.lft (store.the_row D d)) (ShrRef δ.mir δ.lft G)
    (shr_sync α.mir α.lft R run) (shr_sync β.mir β.lft heap.the_row crossing.sync) (shr_sync γ.mir γ.lft (store.the_row D d) (store_sync D d sent)) (shr_sync δ.mir δ.lft G gate)

pub closure_sync : (σ : Ty) (ν : Sym) (α β γ δ : NamedLft) (R G D : RattleType) (d : disks.Ghosts D.Denot) → IsSync R → IsSync G → IsSend D
    → IsSync (param 2 (arg σ no (TupleAt ν (ShrRef α.mir α.lft R ∷ ShrRef β.mir β.lft heap.the_row ∷ ShrRef γ.mir γ.lft (store.the_row D d) ∷ ShrRef δ.mir δ.lft G ∷ []))))
closure_sync σ ν α β γ δ R G D d run gate sent = record { shared = (held_sync ν α β γ δ R G D d run gate sent).shared }
