use Rattle.std.proofs.Crossing.{crosses}
use denote.Param.Send.{sendable}
use Rattle.replica.proofs.Sending.{shared_send}
use Rattle.turn_lock.proofs.turns.Pass.TheSendSync as pass_sent
use Rattle.follow_tests.proofs.Sending.{closure_sync}
use Rattle.follow_tests.proofs.shared.work_all.Goals as goal

pub for_each_mut-requires-send-T : goal.for_each_mut-requires-send-T
for_each_mut-requires-send-T g c κs within = search (shared_send, pass_sent.the_send, crosses, sendable) depth 60 fits 20000

pub for_each_mut-requires-sync-F : goal.for_each_mut-requires-sync-F
for_each_mut-requires-sync-F g c κs within = closure_sync _ _ _ _ _ _ c.type_bounds.sync-R
