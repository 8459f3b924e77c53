-- Players: sessions that play their files in threads.
use Rattle.std.specs.Prelude.{◌≡◌, ℕ, ◌+◌, ◌-◌, ◌<◌, List, [], length, map, get_or, slice_index_or, true, false, Option, Some, None}
use Rattle.std.specs.List.{AllByRecursion}
use Rattle.turn_lock.specs.History.{has_number, reserved}
use Rattle.turn_lock.specs.Callers.{Caller}
use Rattle.store_model.specs.declared.event.Event.{Event}
use Rattle.session_model.specs.declared.command.Command.{Command}
use Rattle.session_model.specs.declared.reply.SessionReply.{SessionReply}
use Rattle.session_model.specs.Sessions.{OpenTransaction, SessionState, no_session}
use Rattle.session_laws.specs.Following.{Follows, first_state}
use Rattle.guard_store.specs.Sessions.{StoreKeeper, StoreSession}
use Rattle.guard_store.specs.Slots.{Origin}
use Rattle.guard_store.specs.Fronts.{SharedStore, session_of}
use Rattle.guard_store.specs.Callers.{IsKeeper, IsSession}
use Rattle.session_threads.specs.Playing.{HasPlayed}

-- a session with the number of its file, the commands of the file until it plays them, and what it was answered then
pub record TeamPlayer : Type 0 where
  pub session : Option StoreSession
  pub number : ℕ
  pub commands : List Command
  pub replies : Option (List SessionReply)

-- a keeper of this store for which no turn failed: it has seen no entry under 0
pub record IsSound (store : SharedStore) (k : StoreKeeper) : Type 0 where
  pub keeper : IsKeeper store k
  pub numbered : AllByRecursion (λ e. 0 < e.session) (reserved session_of false k.pass.known.front)

-- the caller has all events of session i, which came from p to q
pub record HasAll (store : SharedStore) (i : ℕ) (p q : SessionState) (c : Caller Event Origin) : Type 0 where
  pub own : has_number c.known.numbers i ≡ true
  pub follows : Follows store.limits i store.start c.known.front p q

-- before its first event
abbrev pub Stands : SharedStore → ℕ → Option StoreSession → Type 0
Stands store i None = ⊥
Stands store i (Some s) = (s.number ≡ i) × IsSession store s × (s.current ≡ None) × ((p : SessionState) → Follows store.limits i store.start s.pass.known.front p p)

abbrev pub IsStarting : SharedStore → TeamPlayer → Type 0
IsStarting store p = (0 < p.number) × (p.replies ≡ None) × Stands store p.number p.session

-- the files that players are to play
abbrev pub files_of : List TeamPlayer → List (List Command)
files_of players = map (λ p. p.commands) players

-- a session that was answered so, with no command of its file left
pub record IsOver (store : SharedStore) (i : ℕ) (file : List Command) (replies : List SessionReply) (s : StoreSession) : Type 0 where
  pub session : IsSession store s
  pub number : s.number ≡ i
  pub current : Option OpenTransaction
  pub played : HasPlayed store i s.pass.known.front file (record { current = current; commands = []; replies = replies })

-- it may be met
abbrev pub IsHere : SharedStore → Option StoreSession → Type 0
IsHere store None = ⊥
IsHere store (Some s) = s.pass.lock ≡ store.id

abbrev pub HasLock : SharedStore → TeamPlayer → Type 0
HasLock store p = IsHere store p.session

abbrev pub EndsWith : SharedStore → ℕ → List Command → Option (List SessionReply) → Option StoreSession → Type 0
EndsWith store i file None s = IsHere store s
EndsWith store i file (Some replies) None = ⊥
EndsWith store i file (Some replies) (Some s) = IsOver store i file replies s

-- it has played this file to the end, or ran out of memory, has no replies and may be met
abbrev pub HasPlayedFile : SharedStore → List Command → TeamPlayer → Type 0
HasPlayedFile store file p = EndsWith store p.number file p.replies p.session

-- so it has the file of its number
abbrev pub HasEnded : SharedStore → List (List Command) → TeamPlayer → Type 0
HasEnded store files p = HasPlayedFile store (get_or files (p.number - 1) []) p

abbrev pub AreNumbered : List TeamPlayer → Type 0
AreNumbered players = (i : ℕ) (d : TeamPlayer) → i < length players → (slice_index_or players i d).number ≡ i + 1

-- the keeper met the sessions from the last down to number k + 1
pub record Met (files : List (List Command)) (store : SharedStore) (k : ℕ) (c : Caller Event Origin) (all : List (List SessionReply)) : Type 0 where
  pub over : List SessionState
  pub count : length over + k ≡ length files
  pub left : AllByRecursion (λ s. s.commands ≡ []) over
  pub replies : all ≡ map (λ s. s.replies) over
  pub each : (j n : ℕ) → n ≡ k + j → j < length over → HasAll store (n + 1) (first_state (get_or files n [])) (get_or over j no_session) c
