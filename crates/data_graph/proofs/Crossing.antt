-- Threads may share the names of terms and an index of triples: what their pages hold may be shared.
use Rattle.std.proofs.Crossing.{crosses}
use denote.Param.Send.{IsSync, sendable}
use Rattle.page_tree.proofs.page.Entry.TheLaws.TheKnot as page_knot
use Rattle.page_index.specs.contracts.pages.Pages as pages
use Rattle.growing_list.specs.contracts.growing.GrowingList as growing
use Rattle.term_dict.proofs.entry.NamedTerm.TheSendSync as named_sent
use Rattle.term_dict.proofs.entry.ByHash.TheSendSync as by_hash_sent
use Rattle.term_dict.specs.contracts.entry.NamedTerm as named
use Rattle.term_dict.specs.contracts.entry.ByHash as by_hash
use Rattle.term_dict.specs.contracts.entry.ByHashOrd.TheImpl as by_hash_order
use Rattle.term_dict.specs.contracts.entry.ByHashPartialEq.TheImpl as by_hash_equality
use Rattle.term_dict.specs.contracts.entry.ByHashPartialOrd.TheImpl as by_hash_comparison
use Rattle.triple_index.proofs.key.Key.TheSendSync as key_sent
use Rattle.triple_index.specs.contracts.key.Key as key
use Rattle.triple_index.specs.contracts.key.KeyOrd.TheImpl as key_order
use Rattle.triple_index.specs.contracts.key.KeyPartialEq.TheImpl as key_equality
use Rattle.triple_index.specs.contracts.key.KeyPartialOrd.TheImpl as key_comparison

pub names_sync : IsSync (growing.the_row named.the_row)
names_sync = search (named_sent.the_send, named_sent.the_sync, crosses, sendable) depth 60 fits 20000

pub by_hash_sync : IsSync (pages.the_row by_hash.the_row by_hash_order.ghosts by_hash_equality.ghosts by_hash_comparison.ghosts)
by_hash_sync = search (page_knot.crosses, by_hash_sent.the_send, by_hash_sent.the_sync, crosses, sendable) depth 60 fits 20000

pub keys_sync : IsSync (pages.the_row key.the_row key_order.ghosts key_equality.ghosts key_comparison.ghosts)
keys_sync = search (page_knot.crosses, key_sent.the_send, key_sent.the_sync, crosses, sendable) depth 60 fits 20000
