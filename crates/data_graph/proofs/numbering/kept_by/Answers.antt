use Rattle.std.proofs.Crossing.{crosses}
use denote.Param.Send.{sendable}
use Rattle.data_graph.proofs.Crossing.{names_sync, by_hash_sync, keys_sync}
use Rattle.data_graph.proofs.numbering.kept_by.Goals as goal

pub returns-clause-rows : goal.returns-clause-rows
returns-clause-rows g c = (rw c.planned-planned.ensures at c.in_ok-whole_kept.ensures.rows) c.args.shapes.now.graph c.requires.shapes.stand c.requires.shapes.acyclic c.requires.shapes.shallow

pub returns-clause-steps : goal.returns-clause-steps
returns-clause-steps g c = (rw c.planned-planned.ensures at c.in_ok-whole_kept.ensures.steps) c.args.shapes.now.graph c.requires.shapes.stand

pub whole_kept-requires-sync-R : goal.whole_kept-requires-sync-R
whole_kept-requires-sync-R g c κs within = search (keys_sync, crosses, sendable) depth 60 fits 20000

pub whole_kept-requires-sync-N : goal.whole_kept-requires-sync-N
whole_kept-requires-sync-N g c κs within = search (names_sync, by_hash_sync, crosses, sendable) depth 60 fits 20000
