-- What every core keeps: its state is what its history replays to, and what it hands out is sound.
use Rattle.std.specs.Prelude.{◌≡◌, ◌+◌, ◌≤◌, ◌<◌, ◌^◌, false, length}
use Rattle.rdf_model.specs.Terms.{term_cmp, triple_cmp}
use Rattle.rdf_model.specs.Numbers.{IsNumbering}
use Rattle.collections.specs.Ordered.{IsAscending}
use Rattle.store_model.specs.declared.event.Limits.{Limits}
use Rattle.store_model.specs.Blocking.{NoBlocking}
use Rattle.store_model.specs.Store.{RecordedStore, Replays, State}
use Rattle.store_model.specs.Snapshots.{Snapshot, snapshot_of}
use Rattle.parallel_validate.specs.Named.{AreNamedTriples}

-- The graph ascends and has no result under the shapes that blocks; no term has two numbers, each number is less than 2^32,
-- and the terms of both graphs are named.
pub record IsSound (n : Snapshot) : Type 0 where
  pub ascending : IsAscending triple_cmp n.graph
  pub no_blocking : NoBlocking n.mode n.graph n.shapes
  pub numbering : IsNumbering n.named
  pub small : length n.named < 2 ^ 32
  pub graph_named : AreNamedTriples n.named n.graph
  pub shapes_named : AreNamedTriples n.named n.shapes

-- What each state of a history keeps: 64 sessions at most were given out; beside the two first there are no more names than
-- the limit allows; and the nodes that were given out ascend.
pub record IsSoundState (l : Limits) (s : State) : Type 0 where
  pub sound : IsSound (snapshot_of l.mode s)
  pub opened : s.opened ≤ 64
  pub two : 2 ≤ length s.named
  pub within : length s.named ≤ l.terms + 2
  pub given : IsAscending term_cmp s.given

-- The history begins at a sound state that isn't stopped.
pub record IsConsistent (s : RecordedStore) : Type 0 where
  pub replays : Replays s.limits s.start s.history s.state
  pub running : s.start.stopped ≡ false
  pub begins : IsSoundState s.limits s.start
  pub small : s.limits.terms + 2 < 2 ^ 32
  pub opened : s.state.opened ≤ 64
  pub sound : IsSound (snapshot_of s.limits.mode s.state)
  pub two : 2 ≤ length s.state.named
  pub within : length s.state.named ≤ s.limits.terms + 2
  pub given : IsAscending term_cmp s.state.given
