-- Threads may share terms and their numbers.
use Rattle.std.proofs.Crossing.{crosses}
use Rattle.std.proofs.MapsCrossing as maps
use denote.Param.Send.{IsSync, sendable}
use Rattle.rdf_model.proofs.term.Term.TheSendSync as term_sent
use Rattle.triple_table.specs.contracts.numbered.NumberedTerms as numbered

pub terms_sync : IsSync numbered.the_row
terms_sync = search (term_sent.the_sync, maps.crosses, crosses, sendable) depth 60 fits 20000
