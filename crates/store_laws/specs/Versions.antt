-- What two versions of one history have in common.
use Rattle.std.specs.Prelude.{◌≡◌, false, List, drop}
use Rattle.std.specs.List.{AllByRecursion}
use Rattle.rdf_model.specs.declared.triple.Triple.{Triple}
use Rattle.store_model.specs.declared.event.Limits.{Limits}
use Rattle.store_model.specs.declared.event.Event.{Event}
use Rattle.store_model.specs.declared.commit.Accepted.{Accepted}
use Rattle.store_model.specs.Store.{State, Replays, version}
use Rattle.store_laws.specs.Graphs.{has}

-- none of these commits changed the triple
abbrev pub LeaveTriple : Triple → List Accepted → Type 0
LeaveTriple t commits = AllByRecursion (λ a. has a.changed t ≡ false) commits

-- none of these commits staged shapes
abbrev pub LeaveShapes : List Accepted → Type 0
LeaveShapes commits = AllByRecursion (λ a. a.staged ≡ false) commits

-- The commits between a version and a later one of the same history are those beyond the earlier one's number. Where
-- none of them changed a triple, it is in both graphs or in neither.
abbrev pub UnchangedTriplesStay : Type 0
UnchangedTriplesStay = (l : Limits) (s u : State) (between : List Event) (t : Triple) → Replays l s between u → LeaveTriple t (drop (version s) u.commits) → has u.graph t ≡ has s.graph t

-- Where none of them staged shapes, both have the same shapes graph.
abbrev pub UnstagedShapesStay : Type 0
UnstagedShapesStay = (l : Limits) (s u : State) (between : List Event) → Replays l s between u → LeaveShapes (drop (version s) u.commits) → u.shapes ≡ s.shapes
