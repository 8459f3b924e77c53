use Rattle.std.proofs.Common.{◌≡◌, ◌++◌, false, length, reverse}
use Rattle.store_model.specs.Store.{empty_store}
use Rattle.commit_core.proofs.store.Core.replay.Given as goal

abbrev pub invariant-loop-event : goal.invariant-loop-event
invariant-loop-event g l = record {
  limits : l.core.limits ≡ l.fn.limits;
  start : l.core.start ≡ empty_store;
  running : l.core.state.stopped ≡ false;
  so_far : l.core.history ++ reverse l.rest.items ≡ l.fn.events.items;
  place : l.place ≡ length l.core.history;
}

abbrev pub decreases-loop-event : goal.decreases-loop-event
decreases-loop-event g l = length l.rest.items
