-- What is kept of each version. Not seen by any caller.
use Rattle.std.specs.Prelude.{◌≡◌, ℕ, ◌+◌, ◌<◌, ◌≤◌, List, [], ◌∷◌, ◌++◌, drop, length, Option, Some, None}
use Rattle.std.specs.List.{AllByRecursion}
use Rattle.rdf_model.specs.declared.term.Term.{Term}
use Rattle.rdf_model.specs.declared.triple.Triple.{Triple}
use Rattle.rdf_model.specs.Numbers.{AreNumbered}
use Rattle.record_text.specs.declared.record.Record.{Record}
use Rattle.term_dict.specs.Names.{Named}
use Rattle.term_dict.specs.declared.fault.NameFault.{NameFault}
use Rattle.term_dict.specs.declared.fault.NameFault.TheVariants.{Full, Memory}
use Rattle.follower.specs.Followed.{AscendFrom, Followed, HasUnequal, IsGap, IsNew, IsOutside, IsThere, count_with, most_ahead, most_terms, terms_with, version_of}
use Rattle.follower.specs.Numbered.{IsIndexOf, IsNamedRecord}
use Rattle.follower.specs.Records.{AllFit, AreNumberedFrom, Fits, IsLeastMisfit, data_after, data_from, data_of, shapes_after, shapes_from, shapes_of}
use Rattle.follower.specs.declared.following.Standing.{Standing}
use Rattle.follower.specs.declared.following.Standing.TheVariants as standing
use Rattle.follower.specs.declared.version.Version.{Version}
use Rattle.follower.specs.declared.version.Outcome.{Outcome}
use Rattle.follower.specs.declared.version.Outcome.TheVariants.{Next, Misfit}

-- the version has this data graph and this shapes graph
abbrev pub IsVersion : List Term → List Triple → List Triple → Version → Type 0
IsVersion terms g s x = IsIndexOf terms x.graph g × (x.shapes ≡ s)

-- from these graphs on, the versions are those after each of the records
abbrev pub AreVersions : List Term → List Triple → List Triple → List Record → List Version → Type 0
AreVersions terms g s [] [] = Unit {0}
AreVersions terms g s [] (x ∷ xs) = ⊥
AreVersions terms g s (r ∷ rs) [] = ⊥
AreVersions terms g s (r ∷ rs) (x ∷ xs) = IsVersion terms (data_after g r) (shapes_after s r) x × AreVersions terms (data_after g r) (shapes_after s r) rs xs

-- the version after a record, or the least triple of it that misfits
abbrev pub Follows : List Term → List Triple → List Triple → Record → Outcome → Type 0
Follows terms g s r (Next x) = Fits g r × IsVersion terms (data_after g r) (shapes_after s r) x
Follows terms g s r (Misfit t) = IsLeastMisfit g r t

-- each number of what was made has a term
abbrev pub IsNumberedOutcome : List Term → Outcome → Type 0
IsNumberedOutcome terms (Next x) = AreNumbered terms x.graph
IsNumberedOutcome terms (Misfit t) = Unit {0}

-- how far records were applied, from a version with this number and data graph on: all of them fit, and these are their versions
pub record IsRunOf (terms : List Term) (number : ℕ) (g : List Triple) (first : Version) (moved : List Record) (versions : List Version) : Type 0 where
  pub numbered : AreNumberedFrom (number + 1) moved
  pub fit : AllFit g moved
  pub more : List Version
  pub versions_are : versions ≡ first ∷ more
  pub each : AreVersions terms g first.shapes moved more

-- why it ends before the records that are left
abbrev pub EndsRun : ℕ → List Triple → List Record → Option ℕ → Type 0
EndsRun version g left None = IsGap version left
EndsRun version g left (Some number) = (d : Record) × (rest : List Record) × (left ≡ d ∷ rest) × (d.number ≡ number) × (number ≡ version + 1) × (Fits g d → ⊥)

-- what is kept of them
abbrev pub left_after : Option ℕ → List Record → List Record
left_after None left = left
left_after (Some number) left = drop 1 left

-- kept records were applied in turn as far as they follow and fit
pub record IsRun (terms : List Term) (number : ℕ) (g : List Triple) (first : Version) (kept : List Record) (versions : List Version) (dropped : Option ℕ) : Type 0 where
  pub moved : List Record
  pub left : List Record
  pub kept_is : kept ≡ moved ++ left
  pub run : IsRunOf terms number g first moved versions
  pub ends : EndsRun (number + length moved) (data_from g moved) left dropped

-- the same while it goes on: the version that it has come to, and its number
pub record IsRunSoFar (terms : List Term) (number : ℕ) (g : List Triple) (first : Version) (moved : List Record) (versions : List Version) (current : Version) : Type 0 where
  pub run : IsRunOf terms number g first moved versions
  pub current_is : IsVersion terms (data_from g moved) (shapes_from first.shapes moved) current

-- What a follower keeps: the applied records are numbered from 1 and fit in turn, the kept ones ascend, each behind a gap and
-- within the window, and each version is there by the numbers of its terms.
pub record IsFollower (applied kept : List Record) (versions : List Version) (names : Named) : Type 0 where
  pub numbered : AreNumberedFrom 1 applied
  pub fit : AllFit [] applied
  pub ascend : AscendFrom (length applied + 1) kept
  pub near : AllByRecursion (λ (r : Record). r.number ≤ length applied + most_ahead) kept
  pub named : AllByRecursion (IsNamedRecord names.terms) kept
  pub each : AreVersions names.terms [] [] applied versions
  pub limit : names.limit ≡ most_terms

-- how a record stands to those that are there
abbrev pub StandsAs : Followed → Record → Standing → Type 0
StandsAs s r standing.Differs = HasUnequal s r
StandsAs s r standing.Known = IsThere s r
StandsAs s r standing.Outside = IsNew s r × IsOutside s r
StandsAs s r standing.New = IsNew s r × (IsOutside s r → ⊥)

-- the names with those of a record, all of which are named
pub record AreNamesWith (s : Followed) (r : Record) (names : Named) : Type 0 where
  pub are : names ≡ record { terms = terms_with s r; limit = most_terms }
  pub named : IsNamedRecord names.terms r

-- why a record isn't named
abbrev pub IsFull : Followed → Record → NameFault → Type 0
IsFull s r (Full count) = (count ≡ count_with s r) × (most_terms < count)
IsFull s r Memory = Unit {0}

-- a record that follows can be applied, with the kept ones that these versions were made of
pub record CanAdvance (s : Followed) (r : Record) (names : Named) (versions : List Version) (dropped : Option ℕ) : Type 0 where
  pub follows : r.number ≡ version_of s + 1
  pub fits : Fits (data_of s.applied) r
  pub names_are : AreNamesWith s r names
  pub first : Version
  pub first_is : IsVersion names.terms (data_after (data_of s.applied) r) (shapes_after (shapes_of s.applied) r) first
  pub run : IsRun names.terms r.number (data_after (data_of s.applied) r) first s.kept versions dropped
