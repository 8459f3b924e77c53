use Rattle.std.proofs.Common.{rules, ◌<◌, ◌+◌, vec_len, ap, ◌∙◌}
use Rattle.turn_lock.specs.History.{under}
use Rattle.turn_counter.specs.Sums.{number_of}
use Rattle.turn_counter.proofs.team.count.Goals as goal

pub returns : goal.returns
returns g c = λ k lt.
    let some_worker : k < vec_len c.in_ok-first.workers = search rules in
    ap (under number_of (k + 1)) c.close.ensures.entries ∙ (c.in_ok-first-2.ensures.worked k some_worker).additions_are
