-- The format of a log: a header, and then for each record a gate that is open and its block. A closed gate ends the log.
use Rattle.std.specs.Prelude.{◌≡◌, ◌≢◌, ℕ, ◌+◌, ◌<◌, ◌^◌, List, [], ◌∷◌, ◌++◌, length, map}
use Rattle.std.specs.List.{AllByRecursion, flat_map}
use Rattle.std.specs.Int.{to_be_bytes, w64}
use Rattle.record_text.specs.declared.record.Record.{Record}
use Rattle.record_text.specs.Records.{record_text, IsReadableRecord}

-- the first bytes: `SGLOG 1` and LF
abbrev pub header : List ℕ
header = 83 ∷ 71 ∷ 76 ∷ 79 ∷ 71 ∷ 32 ∷ 49 ∷ 10 ∷ []

-- the number of the text's bytes in eight bytes, most significant first, and the text
abbrev pub block : List ℕ → List ℕ
block text = to_be_bytes w64 (length text) ++ text

-- a record as it lies in a log: the byte of its gate, and its text
abbrev pub Entry : Type 0
Entry = ℕ × List ℕ

abbrev pub spelled : Entry → List ℕ
spelled e = e.0 ∷ block e.1

-- the gate is open, which any byte but 0 says, and the length has a spelling
pub record IsOpened (e : Entry) : Type 0 where
  pub gate : e.0 ≢ 0
  pub size : length e.1 < 2 ^ 64

-- the header and these entries
abbrev pub front : List Entry → List ℕ
front es = header ++ flat_map spelled es

-- records that are numbered from this number on, each of which can be read
abbrev pub AreRecordsFrom : ℕ → List Record → Type 0
AreRecordsFrom n [] = Unit {0}
AreRecordsFrom n (r ∷ rs) = (r.number ≡ n) × IsReadableRecord r × AreRecordsFrom (n + 1) rs

-- The image begins with the header and then these records, the first of which is number 1, each behind its open gate; the rest
-- follows.
pub record BeginsWith (image : List ℕ) (records : List Record) (rest : List ℕ) : Type 0 where
  pub numbered : AreRecordsFrom 1 records
  pub entries : List Entry
  pub opened : AllByRecursion IsOpened entries
  pub texts_are : map (λ e. e.1) entries ≡ map record_text records
  pub whole : image ≡ front entries ++ rest

-- The image is a log of these records, and of no other. Behind its closed gate any bytes may stand.
abbrev pub Opens : List ℕ → List Record → Type 0
Opens image records = (rest : List ℕ) × BeginsWith image records (0 ∷ rest)
