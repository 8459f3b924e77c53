use Rattle.std.proofs.Common.{rules, ◌≡◌}
use Rattle.commit_core.proofs.Replaying.{replayed_all}
use Rattle.commit_core.proofs.store.Core.replay.Goals as goal

pub returns : goal.returns
returns g c =
    let kept = c.loop-event.invariant in
    let all : c.loop-event.core.history ≡ c.args.events.items = search rules in
    replayed_all c.args.limits c.args.events.items c.loop-event.core kept.limits kept.start all c.recall_consistent.ensures kept.running
