-- A follower of a leader's records: what it answers to each record that it is fed, and what it serves.
use Rattle.std.specs.Prelude.{◌≡◌, ◌≢◌, ◌⊎◌, ℕ, ◌+◌, ◌-◌, ◌<◌, ◌≤◌, List, [], ◌∷◌, ◌++◌, length, take, Option, Some, None, if◌then◌else◌, nat_lt}
use Rattle.std.specs.List.{AllByRecursion, Contains}
use Rattle.rdf_model.specs.declared.term.Term.{Term}
use Rattle.record_text.specs.declared.record.Record.{Record}
use Rattle.term_dict.specs.Names.{first_terms, with_terms}
use Rattle.follower.specs.Numbered.{IsIndexOf}
use Rattle.follower.specs.Records.{AllFit, AreNumberedFrom, Fits, IsLeastMisfit, data_after, data_of, shapes_of, terms_of}
use Rattle.follower.specs.declared.fed.Fed.{Fed}
use Rattle.follower.specs.declared.fed.Fed.TheVariants.{Differs, Known, Window, Full, Waiting, Misfit, Applied}
use Rattle.follower.specs.declared.served.Served.{Served}
use Rattle.follower.specs.declared.served.AtFault.{AtFault}
use Rattle.follower.specs.declared.served.AtFault.TheVariants.{Unserved, Memory}

-- The records that were applied, numbered from 1; those that are kept until the ones before them come, ascending by number; and
-- the terms of all records that were ever applied or kept, each once, behind rdf:type and rdfs:subClassOf.
pub record Followed : Type 0 where
  pub applied : List Record
  pub kept : List Record
  pub terms : List Term

-- before the first record
abbrev pub unfed : Followed
unfed = record { applied = []; kept = []; terms = first_terms }

-- how many records were applied
abbrev pub version_of : Followed → ℕ
version_of s = length s.applied

-- how far a record that is kept may be ahead of the version, and how many terms may be named beside the first two
abbrev pub most_ahead : ℕ
most_ahead = 1024

abbrev pub most_terms : ℕ
most_terms = 4294967293

-- the record was applied, or is kept
abbrev pub IsThere : Followed → Record → Type 0
IsThere s r = Contains s.applied r ⊎ Contains s.kept r

-- an unequal record is there under its number
abbrev pub HasUnequal : Followed → Record → Type 0
HasUnequal s r = (other : Record) × IsThere s other × (other.number ≡ r.number) × (other ≢ r)

-- no record is there under its number
abbrev pub IsNew : Followed → Record → Type 0
IsNew s r = (other : Record) → IsThere s other → other.number ≢ r.number

-- its number is none, or too far ahead
abbrev pub IsOutside : Followed → Record → Type 0
IsOutside s r = (r.number ≡ 0) ⊎ (version_of s + most_ahead < r.number)

-- the terms with those of the record, and how many they are beside the first two
abbrev pub terms_with : Followed → Record → List Term
terms_with s r = with_terms s.terms (terms_of r)

abbrev pub count_with : Followed → Record → ℕ
count_with s r = length (terms_with s r) - 2

-- it is new, is within the window, and its terms can be named
pub record IsTaken (s : Followed) (r : Record) : Type 0 where
  pub new : IsNew s r
  pub inside : IsOutside s r → ⊥
  pub fits : count_with s r ≤ most_terms

-- the record put into its place by its number
abbrev pub placed : Record → List Record → List Record
placed r [] = r ∷ []
placed r (x ∷ xs) = if nat_lt r.number x.number then r ∷ x ∷ xs else x ∷ placed r xs

abbrev pub with_kept : Followed → Record → Followed
with_kept s r = record { applied = s.applied; kept = placed r s.kept; terms = terms_with s r }

-- the numbers of the records ascend, each over this one
abbrev pub AscendFrom : ℕ → List Record → Type 0
AscendFrom n [] = Unit {0}
AscendFrom n (r ∷ rs) = (n < r.number) × AscendFrom r.number rs

-- What a follower keeps: the applied records are numbered from 1 and each fits the graph after those before it; the kept ones
-- ascend, each of them behind a gap and within the window.
pub record IsKept (s : Followed) : Type 0 where
  pub numbered : AreNumberedFrom 1 s.applied
  pub fit : AllFit [] s.applied
  pub ascend : AscendFrom (version_of s + 1) s.kept
  pub near : AllByRecursion (λ (r : Record). r.number ≤ version_of s + most_ahead) s.kept

-- the first of the records that are left doesn't follow the version
abbrev pub IsGap : ℕ → List Record → Type 0
IsGap version [] = Unit {0}
IsGap version (d ∷ ds) = d.number ≢ version + 1

-- why no more kept records are applied: the first one left doesn't follow those that were applied, or it misfits, and is dropped
abbrev pub EndsWith : List Record → List Record → Option ℕ → List Record → Type 0
EndsWith applied left None kept = (kept ≡ left) × IsGap (length applied) left
EndsWith applied left (Some number) kept =
    (d : Record) × (left ≡ d ∷ kept) × (d.number ≡ number) × (number ≡ length applied + 1) × (Fits (data_of applied) d → ⊥)

-- The record is applied, and then the kept ones that follow without a gap, up to one that misfits, which is dropped.
pub record IsApplied (old : Followed) (r : Record) (dropped : Option ℕ) (new : Followed) : Type 0 where
  pub moved : List Record
  pub applied : new.applied ≡ old.applied ++ r ∷ moved
  pub numbered : AreNumberedFrom (r.number + 1) moved
  pub fit : AllFit (data_after (data_of old.applied) r) moved
  pub left : List Record
  pub kept : old.kept ≡ moved ++ left
  pub ends : EndsWith new.applied left dropped new.kept
  pub terms : new.terms ≡ terms_with old r

-- What a follower answers to a record, and what it is afterwards.
abbrev pub Feeds : Followed → Record → Fed → Followed → Type 0
Feeds old r (Differs number) new = HasUnequal old r × (number ≡ r.number) × (new ≡ old)
Feeds old r (Known version) new = IsThere old r × (version ≡ version_of old) × (new ≡ old)
Feeds old r (Window version) new = IsNew old r × IsOutside old r × (version ≡ version_of old) × (new ≡ old)
Feeds old r (Full count) new = IsNew old r × (IsOutside old r → ⊥) × (count ≡ count_with old r) × (most_terms < count) × (new ≡ old)
Feeds old r (Waiting version) new = IsTaken old r × (version_of old + 1 < r.number) × (version ≡ version_of old) × (new ≡ with_kept old r)
Feeds old r (Misfit number triple) new =
    IsTaken old r × (r.number ≡ version_of old + 1) × (number ≡ r.number) × IsLeastMisfit (data_of old.applied) r triple × (new ≡ old)
Feeds old r (Applied version dropped) new =
    IsTaken old r × (r.number ≡ version_of old + 1) × Fits (data_of old.applied) r × (version ≡ version_of new) × IsApplied old r dropped new

-- What is served of a version: the data graph by the numbers of terms, and the shapes graph, after its records.
pub record IsServed (s : Followed) (version : ℕ) (served : Served) : Type 0 where
  pub within : version ≤ version_of s
  pub version_is : served.version ≡ version
  pub names : served.names.terms ≡ s.terms
  pub graph : IsIndexOf served.names.terms served.graph (data_of (take version s.applied))
  pub shapes : served.shapes ≡ shapes_of (take version s.applied)

-- why a version isn't served
abbrev pub IsUnserved : Followed → ℕ → AtFault → Type 0
IsUnserved s version (Unserved newest) = (version_of s < version) × (newest ≡ version_of s)
IsUnserved s version Memory = version ≤ version_of s
