-- Laws of replicas.
use Rattle.std.specs.Prelude.{◌≡◌, List, [], ◌∷◌, ◌++◌}
use Rattle.std.specs.List.{Contains}
use Rattle.turn_lock.specs.Callers.{Caller}
use Rattle.record_text.specs.declared.record.Record.{Record}
use Rattle.follower.specs.declared.fed.Fed.{Fed}
use Rattle.follower.specs.Followed.{Followed, unfed}
use Rattle.follower.specs.Laws.{Feeding, HasLeadersGraphs, IsLeader}
use Rattle.replica.specs.declared.entry.Entry.{Entry}
use Rattle.replica.specs.declared.entry.Entry.TheVariants.{Feed, Read, Void}
use Rattle.replica.specs.Entries.{Enters, Leads}
use Rattle.replica.specs.Turns.{Turn}

-- the records that were fed, with their answers
abbrev pub feedings_of : List Entry → List Feeding
feedings_of [] = []
feedings_of (Feed r fed ∷ es) = (r, fed) ∷ feedings_of es
feedings_of (Read version ∷ es) = feedings_of es
feedings_of (Void ∷ es) = feedings_of es

-- where each record fed is the leader's at its number, in any order, with repeats and losses
abbrev pub ReplicaFollows : Type 0
ReplicaFollows = (leader : List Record) (es : List Entry) (s : Followed) → IsLeader leader → ((r : Record) (fed : Fed) → Contains es (Feed r fed) → Contains leader r) →
    Leads unfed es s → HasLeadersGraphs leader (feedings_of es) s

-- a list of entries leads to one follower
abbrev pub OneFollower : Type 0
OneFollower = (es : List Entry) (s t : Followed) → Leads unfed es s → Leads unfed es t → s ≡ t

-- The new front is the old one, what others added, and this entry, by which the caller's own list grew; the entry is answered
-- as a follower that was given all before it.
pub record AddsOne (old new : Caller Entry (Unit {0})) (e : Entry) : Type 0 where
  pub others : List Entry
  pub front : new.known.front ≡ old.known.front ++ others ++ e ∷ []
  pub own : new.own ≡ old.own ++ e ∷ []
  pub before : Followed
  pub leads : Leads unfed (old.known.front ++ others) before
  pub after : Followed
  pub step : Enters before e after

abbrev pub TurnsAddOne : Type 0
TurnsAddOne = (old new : Caller Entry (Unit {0})) (e : Entry) → Turn old new e → AddsOne old new e
