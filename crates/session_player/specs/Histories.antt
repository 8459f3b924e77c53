-- Histories that are handed in: which of the places is the first that isn't valid. A place is the session that it names, or
-- none where its text is no number of a session.
use Rattle.std.specs.Prelude.{◌≡◌, ◌≢◌, ℕ, ◌+◌, ◌≤◌, List, [], ◌∷◌, ◌++◌, length, map, Option, Some, None, nat_eq, MatchBool}
use Rattle.store_model.specs.declared.event.Limits.{Limits}
use Rattle.store_model.specs.Store.{State}
use Rattle.session_model.specs.declared.command.Command.{Command}
use Rattle.session_model.specs.declared.reply.SessionReply.{SessionReply}
use Rattle.session_model.specs.Sessions.{World, IsComplete, RunsInOrder, HasReplies, session_at, start}

-- the session may have the next place: it is the next opening and has a file, or it was opened and has an event left
abbrev pub MayTake : World → ℕ → Type 0
MayTake m i = MatchBool (nat_eq i (m.state.opened + 1)) (i ≤ length m.sessions) ((1 ≤ i) × (i ≤ m.state.opened) × ((session_at m i).commands ≢ []))

abbrev pub IsBadPlace : World → Option ℕ → Type 0
IsBadPlace m None = Unit {0}
IsBadPlace m (Some i) = MayTake m i → ⊥

-- what follows the places that are valid: a bad place, or the end, before the run is complete
abbrev pub BreaksOff : World → List (Option ℕ) → Type 0
BreaksOff m [] = IsComplete m → ⊥
BreaksOff m (place ∷ more) = IsBadPlace m place

-- Place k is the first that isn't valid, over a store that begins in state s; where the places end early, it is the one after
-- the last.
abbrev pub IsFirstBad : List (List Command) → Limits → State → List (Option ℕ) → ℕ → Type 0
IsFirstBad files l s places k = (order : List ℕ) × (rest : List (Option ℕ)) × (m : World) × (places ≡ map Some order ++ rest) × RunsInOrder l (start s files) order None m × BreaksOff m rest × (k ≡ length order + 1)

-- All places are valid, and the sessions are answered so.
abbrev pub IsReplayed : List (List Command) → Limits → State → List (Option ℕ) → List ℕ → List (List SessionReply) → Type 0
IsReplayed files l s places order all = (places ≡ map Some order) × HasReplies files l s order None all
