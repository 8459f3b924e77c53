-- What a replica passes on may go to another thread, and threads may share the replica.
use Rattle.std.proofs.Crossing.{crosses}
use denote.Param.Send.{IsSend, IsSync, sendable}
use Rattle.page_tree.proofs.page.Entry.TheLaws.TheKnot as page_knot
use Rattle.page_index.specs.contracts.pages.Pages as pages
use Rattle.growing_list.specs.contracts.growing.GrowingList as growing
use Rattle.rdf_model.proofs.triple.Triple.TheSendSync as triple_sent
use Rattle.rdf_model.specs.contracts.triple.Triple as triple
use Rattle.rdf_model.specs.contracts.triple.TripleOrd.TheImpl as triple_order
use Rattle.rdf_model.specs.contracts.triple.TriplePartialEq.TheImpl as triple_equality
use Rattle.rdf_model.specs.contracts.triple.TriplePartialOrd.TheImpl as triple_comparison
use Rattle.term_dict.proofs.entry.NamedTerm.TheSendSync as named_sent
use Rattle.term_dict.proofs.entry.ByHash.TheSendSync as by_hash_sent
use Rattle.term_dict.specs.contracts.entry.NamedTerm as named
use Rattle.term_dict.specs.contracts.entry.ByHash as by_hash
use Rattle.term_dict.specs.contracts.entry.ByHashOrd.TheImpl as by_hash_order
use Rattle.term_dict.specs.contracts.entry.ByHashPartialEq.TheImpl as by_hash_equality
use Rattle.term_dict.specs.contracts.entry.ByHashPartialOrd.TheImpl as by_hash_comparison
use Rattle.term_dict.specs.contracts.dict.Dict as dict
use Rattle.triple_index.proofs.key.Key.TheSendSync as key_sent
use Rattle.triple_index.specs.contracts.key.Key as key
use Rattle.triple_index.specs.contracts.key.KeyOrd.TheImpl as key_order
use Rattle.triple_index.specs.contracts.key.KeyPartialEq.TheImpl as key_equality
use Rattle.triple_index.specs.contracts.key.KeyPartialOrd.TheImpl as key_comparison
use Rattle.triple_index.specs.contracts.index.Index as index
use Rattle.collections.proofs.sequence.Sequence.TheSendSync as sequence_sent
use Rattle.record_text.specs.contracts.record.Record as record_row
use Rattle.follower.specs.contracts.version.Version as version
use Rattle.follower.specs.contracts.fed.Fed as fed
use Rattle.follower.specs.contracts.following.Follower as follower
use Rattle.turn_lock.proofs.turns.Turns.TheSendSync as turns_sent
use Rattle.replica.proofs.history.History.TheLaws.TheKnot as history_knot
use Rattle.replica.specs.contracts.entry.Entry as entry
use Rattle.replica.specs.contracts.history.History as history
use Rattle.replica.specs.contracts.shared.Shared as shared
use Rattle.replica.specs.contracts.sharing.Replica as replica

triples_send : IsSend (pages.the_row triple.the_row triple_order.ghosts triple_equality.ghosts triple_comparison.ghosts)
triples_send = search (page_knot.crosses, triple_sent.the_send, triple_sent.the_sync, crosses, sendable) depth 60 fits 20000

names_send : IsSend (growing.the_row named.the_row)
names_send = search (named_sent.the_send, named_sent.the_sync, crosses, sendable) depth 60 fits 20000

by_hash_send : IsSend (pages.the_row by_hash.the_row by_hash_order.ghosts by_hash_equality.ghosts by_hash_comparison.ghosts)
by_hash_send = search (page_knot.crosses, by_hash_sent.the_send, by_hash_sent.the_sync, crosses, sendable) depth 60 fits 20000

dict_send : IsSend dict.the_row
dict_send = search (names_send, by_hash_send, crosses, sendable) depth 60 fits 20000

keys_send : IsSend (pages.the_row key.the_row key_order.ghosts key_equality.ghosts key_comparison.ghosts)
keys_send = search (page_knot.crosses, key_sent.the_send, key_sent.the_sync, crosses, sendable) depth 60 fits 20000

index_send : IsSend index.the_row
index_send = search (keys_send, crosses, sendable) depth 60 fits 20000

triple_send : IsSend (triple.the_field).row
triple_send = search (crosses, sendable) depth 60 fits 20000

record_send : IsSend record_row.the_row
record_send = search (triple_sent.the_send, sequence_sent.the_send, crosses, sendable) depth 60 fits 20000

version_send : IsSend version.the_row
version_send = search (index_send, triples_send, crosses, sendable) depth 60 fits 20000

follower_send : IsSend follower.the_row
follower_send = search (record_send, version_send, dict_send, crosses, sendable) depth 60 fits 20000

record_fields_send : IsSend (record_row.the_field).row
record_fields_send = search (record_send, triple_sent.the_send, sequence_sent.the_send, crosses, sendable) depth 60 fits 20000

fed_send : IsSend (fed.the_field).row
fed_send = search (triple_send, crosses, sendable) depth 60 fits 20000

entry_send : IsSend (entry.the_field).row
entry_send = search (record_fields_send, record_send, fed_send, crosses, sendable) depth 60 fits 20000

history_send : IsSend history.the_row
history_send = search (entry_send, history_knot.crosses, crosses, sendable) depth 60 fits 20000

pub shared_send : IsSend shared.the_row
shared_send = search (follower_send, history_send, crosses, sendable) depth 60 fits 20000

pub replica_sync : IsSync replica.the_row
replica_sync = search (turns_sent.the_sync, shared_send, crosses, sendable) depth 60 fits 20000
