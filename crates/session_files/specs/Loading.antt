-- What files hold, as far as it is told: sessions, or what is wrong with them. The patterns that were refused are old before
-- the sessions are read, and new after.
use Rattle.std.specs.Prelude.{◌≡◌, ◌⊎◌, ℕ, ◌+◌, ◌-◌, ◌^◌, ◌<◌, ◌≤◌, List, [], ◌∷◌, length, take, get_or, Option, Some, None, Err}
use Rattle.session_model.specs.declared.command.Command.{Command}
use Rattle.session_reader.specs.SessionFile.{IsSession, session_of}
use Rattle.outside.specs.Faults.{Refusal}
use Rattle.outside.specs.Files.{Contents, Loads}
use Rattle.input_files.specs.Lengths.{HoldsText, IsTooLong, room}

-- The number of the first blank node of session i, by the list of such numbers: 1 where it has none.
abbrev pub first_of : List ℕ → ℕ → ℕ
first_of firsts i = get_or firsts (i - 1) 1

-- a number from 1 on, which leaves enough others behind it for a file within that length
pub record IsFirstNumber (n : ℕ) : Type 0 where
  pub some : 1 ≤ n
  pub most : n + room ≤ 2 ^ 32

-- bytes within that length are the file of session i, of these commands; its first blank node has the number first
abbrev pub AreSession : ℕ → ℕ → List ℕ → List Command → List Refusal → List Refusal → Type 0
AreSession i first bytes commands old new = (length bytes < room) × IsSession i first bytes commands old new

-- the file holds session i, of these commands
abbrev pub HoldsSession : Option Contents → List ℕ → ℕ → List ℕ → List Command → List Refusal → List Refusal → Type 0
HoldsSession held firsts i name commands old new = (bytes : List ℕ) × Loads held name room bytes × AreSession i (first_of firsts i) bytes commands old new

-- the files hold the sessions from number i on; each goes on from the patterns that were refused so far
abbrev pub HoldSessions : Option Contents → List ℕ → ℕ → List (List ℕ) → List (List Command) → List Refusal → List Refusal → Type 0
HoldSessions held firsts i [] [] old new = new ≡ old
HoldSessions held firsts i (name ∷ names) (commands ∷ more) old new = (mid : List Refusal) × HoldsSession held firsts i name commands old mid × HoldSessions held firsts (i + 1) names more mid new
HoldSessions held firsts i [] (commands ∷ more) old new = ⊥
HoldSessions held firsts i (name ∷ names) [] old new = ⊥

-- line n is the first of session i in these bytes that is no command
abbrev pub IsBadLine : ℕ → ℕ → ℕ → List ℕ → Type 0
IsBadLine i first n bytes = (length bytes < room) × (session_of i first bytes ≡ Err n)

abbrev pub HasBadLine : Option Contents → List ℕ → ℕ → ℕ → List ℕ → Type 0
HasBadLine held firsts i n name = (bytes : List ℕ) × Loads held name room bytes × IsBadLine i (first_of firsts i) n bytes

-- the i-th of the files is so, and those before it hold sessions
abbrev pub FirstAt : Option Contents → List ℕ → List (List ℕ) → ℕ → List Refusal → List Refusal → (List ℕ → Type 0) → Type 0
FirstAt held firsts names i old new P = (k : ℕ) × (i ≡ k + 1) × (k < length names) × ((all : List (List Command)) × HoldSessions held firsts 1 (take k names) all old new) × P (get_or names k [])

-- the file of a history that is handed in holds some text
abbrev pub HoldsHistory : Option Contents → Option (List ℕ) → Type 0
HoldsHistory held None = Unit {0}
HoldsHistory held (Some name) = (bytes : List ℕ) × HoldsText held name bytes

-- file f is the first that is too long; the history's file is file 1
abbrev pub IsFirstLong : Option Contents → List ℕ → Option (List ℕ) → List (List ℕ) → ℕ → List Refusal → List Refusal → Type 0
IsFirstLong held firsts None names f old new = FirstAt held firsts names f old new (IsTooLong held)
IsFirstLong held firsts (Some name) names f old new = ((f ≡ 1) × IsTooLong held name × (new ≡ old)) ⊎ ((i : ℕ) × (f ≡ i + 1) × HoldsHistory held (Some name) × FirstAt held firsts names i old new (IsTooLong held))

-- how many files are loaded up to that of session i
abbrev pub loaded_up_to : Option (List ℕ) → ℕ → ℕ
loaded_up_to None i = i
loaded_up_to (Some name) i = i + 1
