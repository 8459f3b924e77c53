use Rattle.std.proofs.Common.{◌≡◌, ◌++◌, map, reverse}
use Rattle.event_history.specs.Kept.{session_of}
use Rattle.event_history.proofs.row.sessions_back.Given as goal

abbrev pub invariant-loop-at : goal.invariant-loop-at
invariant-loop-at l = l.sessions.items ++ reverse (map session_of l.at) ≡ reverse (map session_of l.fn.kept)
