-- Images that are no logs, each with the number of the record that is to blame.
use Rattle.std.specs.Prelude.{◌≡◌, ◌≢◌, ◌⊎◌, ℕ, ◌+◌, ◌<◌, ◌^◌, List, [], ◌∷◌, ◌++◌, length}
use Rattle.record_text.specs.declared.record.Record.{Record}
use Rattle.record_text.specs.Records.{record_text, IsReadableRecord}
use Rattle.commit_log.specs.Format.{header, block, front, BeginsWith, Opens}
use Rattle.commit_log.specs.declared.read.RecordFault.{RecordFault}
use Rattle.commit_log.specs.declared.read.RecordFault.TheVariants.{BadLog, Memory}

-- the header stands in front
abbrev pub HasHeader : List ℕ → Type 0
HasHeader image = (rest : List ℕ) × (image ≡ header ++ rest)

-- no record with this number, whole and in the one spelling, stands in front
abbrev pub HasNoRecord : ℕ → List ℕ → Type 0
HasNoRecord number bytes = (r : Record) (more : List ℕ) → r.number ≡ number → IsReadableRecord r → length (record_text r) < 2 ^ 64 → bytes ≢ block (record_text r) ++ more

-- the image ends behind so many records, where a gate should stand
pub record Ends (image : List ℕ) (count : ℕ) : Type 0 where
  pub records : List Record
  pub count_is : count ≡ length records
  pub begins : BeginsWith image records []

-- behind the records before this one a gate is open, and what stands behind it is no record with this number
pub record Breaks (image : List ℕ) (number : ℕ) : Type 0 where
  pub records : List Record
  pub number_is : number ≡ length records + 1
  pub gate : ℕ
  pub is_open : gate ≢ 0
  pub rest : List ℕ
  pub begins : BeginsWith image records (gate ∷ rest)
  pub no_record : HasNoRecord number rest

-- The record with this number is to blame: its gate is open, and it isn't whole, isn't spelled as records are, has another
-- number, or no gate follows it. For 0 it is the header, or the first gate.
abbrev pub IsBad : List ℕ → ℕ → Type 0
IsBad image number = ((number ≡ 0) × (HasHeader image → ⊥)) ⊎ (Ends image number ⊎ Breaks image number)

abbrev pub Refuses : List ℕ → RecordFault → Type 0
Refuses image (BadLog number) = IsBad image number
Refuses image Memory = Unit {0}

-- the records of an image, and the place of its closed gate; not seen by any caller
pub record IsRead (image : List ℕ) (records : List Record) (end : ℕ) : Type 0 where
  pub rest : List ℕ
  pub begins : BeginsWith image records (0 ∷ rest)
  pub end_is : end ≡ length (front begins.entries)

-- the text of a block stands in front; not seen by any caller
abbrev pub BeginsWithBlock : List ℕ → Type 0
BeginsWithBlock bytes = (text more : List ℕ) × (length text < 2 ^ 64) × (bytes ≡ block text ++ more)

-- no record with the number was read, and what is to blame; not seen by any caller
abbrev pub IsNoNext : ℕ → List ℕ → RecordFault → Type 0
IsNoNext number bytes (BadLog k) = (k ≡ number) × HasNoRecord number bytes
IsNoNext number bytes Memory = Unit {0}

-- the record with the number was read, and the rest follows; not seen by any caller
pub record IsNext (number : ℕ) (bytes : List ℕ) (old new : List Record) (rest : List ℕ) : Type 0 where
  pub found : Record
  pub number_is : found.number ≡ number
  pub readable : IsReadableRecord found
  pub size : length (record_text found) < 2 ^ 64
  pub added : new ≡ old ++ found ∷ []
  pub bytes_are : bytes ≡ block (record_text found) ++ rest

-- an image opens to one list of records
abbrev pub OpensToOne : Type 0
OpensToOne = (image : List ℕ) (records others : List Record) → Opens image records → Opens image others → records ≡ others

-- an image that opens is not bad
abbrev pub NoLogIsBad : Type 0
NoLogIsBad = (image : List ℕ) (records : List Record) (number : ℕ) → Opens image records → IsBad image number → ⊥

-- one record of an image is to blame
abbrev pub OneIsToBlame : Type 0
OneIsToBlame = (image : List ℕ) (number other : ℕ) → IsBad image number → IsBad image other → number ≡ other
