use Rattle.std.proofs.Common.{◌≡◌, ◌+◌, ◌++◌, length, reverse}
use Rattle.std.specs.Vec.{vec_capacity}
use Rattle.event_history.specs.Kept.{events_with}
use Rattle.event_history.proofs.Taking.{left}
use Rattle.event_history.proofs.row.events_back.Given as goal

abbrev pub invariant-loop-rest : goal.invariant-loop-rest
invariant-loop-rest l = record {
  so_far : l.events.items ++ events_with (reverse (left l.rest)) (reverse l.read.items) ≡ events_with (reverse l.fn.kept) (reverse l.fn.read.items);
  read : length l.read.items ≡ length (left l.rest);
  room : length l.events.items + length (left l.rest) ≡ vec_capacity l.events;
}

abbrev pub decreases-loop-rest : goal.decreases-loop-rest
decreases-loop-rest l = length (left l.rest)
