-- The store as it was at one version, with what blocks there: what a transaction sees from its begin on, and a check beside the store at a head.
use Rattle.std.specs.Prelude.{ℕ, List}
use Rattle.rdf_model.specs.declared.term.Term.{Term}
use Rattle.rdf_model.specs.declared.triple.Triple.{Triple}
use Rattle.store_model.specs.declared.event.BlockMode.{BlockMode}
use Rattle.store_model.specs.Store.{State, version}

pub record Snapshot : Type 0 where
  pub mode : BlockMode
  pub number : ℕ
  pub graph : List Triple
  pub shapes : List Triple
  pub named : List Term

abbrev pub snapshot_of : BlockMode → State → Snapshot
snapshot_of mode s = record { mode = mode; number = version s; graph = s.graph; shapes = s.shapes; named = s.named }
