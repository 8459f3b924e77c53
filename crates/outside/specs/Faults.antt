-- Which faults are noted: all but want of memory, each at the end of a list.
use Rattle.std.specs.Prelude.{◌≡◌, ◌⊎◌, ℕ, List, [], ◌∷◌, ◌++◌, Result, Ok, Err}
use Rattle.outside.specs.declared.files.LoadFault.{LoadFault}
use Rattle.outside.specs.declared.files.LoadFault.TheVariants as load
use Rattle.outside.specs.declared.maker.MakeFault.{MakeFault}
use Rattle.outside.specs.declared.maker.MakeFault.TheVariants as make

-- the name of a load that failed joins the list
abbrev pub Notes : LoadFault → List (List ℕ) → List ℕ → List (List ℕ) → Type 0
Notes load.Failed old name new = new ≡ old ++ name ∷ []
Notes load.Memory old name new = new ≡ old

-- a load joins the list of loads; where memory ran out it may not have been made
abbrev pub NotesLoad : {X : Type 0} → Result X LoadFault → List (List ℕ) → List ℕ → List (List ℕ) → Type 0
NotesLoad (Ok bytes) old name new = new ≡ old ++ name ∷ []
NotesLoad (Err load.Failed) old name new = new ≡ old ++ name ∷ []
NotesLoad (Err load.Memory) old name new = (new ≡ old) ⊎ (new ≡ old ++ name ∷ [])

-- a pattern that was refused, with its flags
abbrev pub Refusal : Type 0
Refusal = List ℕ × List ℕ

-- a refused pattern joins the list with its flags
abbrev pub NotesRefusal : MakeFault → List Refusal → Refusal → List Refusal → Type 0
NotesRefusal make.Refused old refusal new = new ≡ old ++ refusal ∷ []
NotesRefusal make.Memory old refusal new = new ≡ old

-- what a maker was asked to build, a pattern with its flags
abbrev pub Request : Type 0
Request = List ℕ × List ℕ

-- a build joins the list of what was asked; where memory ran out it may not have been asked
abbrev pub NotesBuild : {X : Type 0} → Result X MakeFault → List Request → Request → List Request → Type 0
NotesBuild (Ok regex) old request new = new ≡ old ++ request ∷ []
NotesBuild (Err make.Refused) old request new = new ≡ old ++ request ∷ []
NotesBuild (Err make.Memory) old request new = (new ≡ old) ⊎ (new ≡ old ++ request ∷ [])
