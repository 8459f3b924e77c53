use Rattle.std.proofs.Common.{◌≡◌, take}
use Rattle.event_history.specs.Named.{net_at}
use Rattle.event_history.proofs.kept.net_of.Given as goal

abbrev pub invariant-loop-change : goal.invariant-loop-change
invariant-loop-change l = l.read ≡ net_at l.names.terms (take l.change-index l.net)
