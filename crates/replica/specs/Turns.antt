-- What a turn of a replica adds to what its caller has seen.
use Rattle.std.specs.Prelude.{◌≡◌, ◌⊎◌, ℕ, ◌≤◌, true, List, [], ◌∷◌, ◌++◌}
use Rattle.std.specs.List.{Contains}
use Rattle.turn_lock.specs.History.{OthersAdded}
use Rattle.turn_lock.specs.Callers.{Caller}
use Rattle.follower.specs.declared.served.Served.{Served}
use Rattle.follower.specs.Followed.{Followed, IsServed, unfed, version_of}
use Rattle.replica.specs.declared.entry.Entry.{Entry}
use Rattle.replica.specs.declared.entry.Entry.TheVariants.{Read, Void}
use Rattle.replica.specs.Entries.{Enters, Leads, Tells, number_of}

module _ {D : Type 0} where
  -- the caller once its entry stands behind what it found in its turn, and behind its own entries
  abbrev pub turned_pass : Caller Entry D → List Entry → Entry → Caller Entry D
  turned_pass old seen e = record old { known = record old.known { front = seen ++ e ∷ [] }; own = old.own ++ e ∷ [] }

  -- The caller's entry stands right behind what was there before it, to which others alone had added. It is answered as a
  -- follower that was given the entries before it.
  pub record Turn (old new : Caller Entry D) (e : Entry) : Type 0 where
    pub seen : List Entry
    pub others : OthersAdded number_of true old.known seen
    pub before : Followed
    pub leads : Leads unfed seen before
    pub after : Followed
    pub step : Enters before e after
    pub caller : new ≡ turned_pass old seen e

  -- memory ran out before the turn, which then is none, or inside it
  abbrev pub Fails : Caller Entry D → Caller Entry D → Type 0
  Fails old new = (new ≡ old) ⊎ Turn old new Void

  -- The newest version was served in a turn. It isn't below that of the follower to which all leads that the caller had seen,
  -- nor below any that an entry tells which the caller had seen.
  pub record Reads (old new : Caller Entry D) (served : Served) : Type 0 where
    pub turn : Turn old new (Read served.version)
    pub is_served : IsServed turn.before served.version served
    pub current : (s : Followed) → Leads unfed old.known.front s → version_of s ≤ served.version
    pub told : (e : Entry) (n : ℕ) → Contains old.known.front e → Tells e n → n ≤ served.version
