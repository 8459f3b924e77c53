use Rattle.std.proofs.Common.{false}
use Rattle.session_transaction.proofs.Checking.{check_same, named_now}
use Rattle.session_player.proofs.Playing.{head_keeps}
use Rattle.session_player.proofs.perform.take_head.Goals as goal

pub check-requires : goal.check-requires
check-requires g c = (c.type_bounds.sync-T, named_now c.args.core.now.limits.mode c.args.open.now.transaction c.args.core.now.state c.in_ok-head.head c.requires.fits c.in_ok-head.ensures.snapshot)

pub returns-clause-head : goal.returns-clause-head
returns-clause-head g c = record { number = _; step = c.in_ok-head.ensures.step }

pub returns-clause-same : goal.returns-clause-same
returns-clause-same g c =
    let p = check_same _ _ _ _ c.in_ok-check.ensures.checks in
    λ i. record { transaction = p.0 i; graph = (p.1 i).graph; shapes = (p.1 i).shapes; head_taken = false }

pub returns-clause-kept : goal.returns-clause-kept
returns-clause-kept g c = head_keeps _ _ _ _ _ _ _ c.recall_consistent.ensures.replays c.in_ok-head.ensures.step c.in_ok-head.ensures.snapshot c.in_ok-check.ensures.checks
