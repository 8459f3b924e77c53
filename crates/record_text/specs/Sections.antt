-- The lists of a record as texts of N-Triples. Not seen by any caller.
use Rattle.std.specs.Prelude.{◌≡◌, ◌≢◌, ℕ, List, Option}
use Rattle.std.specs.Option.{option_map}
use Rattle.ntriples_text.specs.Writing.{written}
use Rattle.record_text.specs.declared.record.Record.{Record}
use Rattle.record_text.specs.declared.reading.TextFault.{TextFault}
use Rattle.record_text.specs.declared.reading.TextFault.TheVariants.{NoRecord, Memory}
use Rattle.record_text.specs.Records.{IsReadableRecord}

-- the texts of the lists of a record
pub record AreSections (r : Record) (removed added : List ℕ) (shapes : Option (List ℕ)) : Type 0 where
  pub removed_is : removed ≡ written r.removed
  pub added_is : added ≡ written r.added
  pub shapes_is : shapes ≡ option_map written r.shapes

-- what was found of a text is the one thing of which P holds and that has this text
pub record IsOnlyOne {X T : Type 0} (P : X → Type 0) (text_of : X → T) (text : T) (found : X) : Type 0 where
  pub is : P found
  pub only : (other : X) → P other → text ≡ text_of other → found ≡ other

-- nothing of which P holds has this text, unless memory ran out
abbrev pub IsNothing : {X T : Type 0} → (X → Type 0) → (X → T) → T → TextFault → Type 0
IsNothing P text_of text NoRecord = (other : _) → P other → text ≢ text_of other
IsNothing P text_of text Memory = Unit {0}

-- a record with this number that can be read
abbrev pub IsNumbered : ℕ → Record → Type 0
IsNumbered number r = (r.number ≡ number) × IsReadableRecord r

-- what was found is the one record with this number whose lists have these texts
pub record AreRead (number : ℕ) (removed added : List ℕ) (shapes : Option (List ℕ)) (found : Record) : Type 0 where
  pub is : IsNumbered number found
  pub only : (r : Record) → IsNumbered number r → AreSections r removed added shapes → found ≡ r

-- the lists of no such record have these texts, unless memory ran out
abbrev pub AreNoLists : ℕ → List ℕ → List ℕ → Option (List ℕ) → TextFault → Type 0
AreNoLists number removed added shapes NoRecord = (r : Record) → IsNumbered number r → AreSections r removed added shapes → ⊥
AreNoLists number removed added shapes Memory = Unit {0}
