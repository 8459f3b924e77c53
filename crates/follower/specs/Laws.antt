-- A follower has the graphs of the leader whose records it was fed.
use Rattle.std.specs.Prelude.{◌≡◌, ℕ, ◌+◌, ◌<◌, ◌≤◌, List, [], ◌∷◌, ◌++◌, take}
use Rattle.std.specs.List.{Contains}
use Rattle.rdf_model.specs.declared.term.Term.{Term}
use Rattle.record_text.specs.declared.record.Record.{Record}
use Rattle.follower.specs.Followed.{Feeds, Followed, IsKept, unfed, version_of}
use Rattle.follower.specs.Records.{AllFit, AreNumberedFrom, data_of, shapes_of, terms_of}
use Rattle.term_dict.specs.Names.{first_terms, with_terms}
use Rattle.follower.specs.declared.fed.Fed.{Fed}
use Rattle.follower.specs.declared.fed.Fed.TheVariants.{Differs, Known, Window, Full, Waiting, Misfit, Applied}

-- the records of a leader: numbered from 1, and each fits the graph after those before it
pub record IsLeader (records : List Record) : Type 0 where
  pub numbered : AreNumberedFrom 1 records
  pub fit : AllFit [] records

-- a record and the answer to it, and what a follower is after such a list
abbrev pub Feeding : Type 0
Feeding = Record × Fed

abbrev pub Runs : Followed → List Feeding → Followed → Type 0
Runs s [] t = t ≡ s
Runs s (f ∷ fs) t = (m : Followed) × Feeds s f.0 f.1 m × Runs m fs t

-- the record was applied or kept
abbrev pub IsAcceptance : Fed → Type 0
IsAcceptance (Differs number) = ⊥
IsAcceptance (Known version) = ⊥
IsAcceptance (Window version) = ⊥
IsAcceptance (Full count) = ⊥
IsAcceptance (Waiting version) = Unit {0}
IsAcceptance (Misfit number triple) = ⊥
IsAcceptance (Applied version dropped) = Unit {0}

-- a record with this number was accepted
abbrev pub IsAccepted : List Feeding → ℕ → Type 0
IsAccepted fs number = (f : Feeding) × Contains fs f × (f.0.number ≡ number) × IsAcceptance f.1

-- The version is the greatest number up to which every record was accepted, and each version up to it has the leader's graphs
-- after its first records, so many.
pub record HasLeadersGraphs (leader : List Record) (fs : List Feeding) (s : Followed) : Type 0 where
  pub accepted : (number : ℕ) → 0 < number → number ≤ version_of s → IsAccepted fs number
  pub greatest : IsAccepted fs (version_of s + 1) → ⊥
  pub graph : (version : ℕ) → version ≤ version_of s → data_of (take version s.applied) ≡ data_of (take version leader)
  pub shapes : (version : ℕ) → version ≤ version_of s → shapes_of (take version s.applied) ≡ shapes_of (take version leader)

-- where each record fed is the leader's at its number, in any order, with repeats and losses
abbrev pub FollowsLeader : Type 0
FollowsLeader = (leader : List Record) (fs : List Feeding) (s : Followed) → IsLeader leader → ((f : Feeding) → Contains fs f → Contains leader f.0) →
    Runs unfed fs s → HasLeadersGraphs leader fs s

-- the terms of the records that were accepted, in the order in which they were
abbrev pub taken_terms : Fed → List Term → List Term
taken_terms (Differs number) terms = []
taken_terms (Known version) terms = []
taken_terms (Window version) terms = []
taken_terms (Full count) terms = []
taken_terms (Waiting version) terms = terms
taken_terms (Misfit number triple) terms = []
taken_terms (Applied version dropped) terms = terms

abbrev pub accepted_terms : List Feeding → List Term
accepted_terms [] = []
accepted_terms (f ∷ fs) = taken_terms f.1 (terms_of f.0) ++ accepted_terms fs

-- the terms are those of all records that were ever accepted, those that were dropped later among them
abbrev pub NamesAccepted : Type 0
NamesAccepted = (fs : List Feeding) (s : Followed) → Runs unfed fs s → s.terms ≡ with_terms first_terms (accepted_terms fs)

-- a follower gives one answer to a record, and is one thing afterwards
abbrev pub AnswersOnce : Type 0
AnswersOnce = (s t u : Followed) (r : Record) (a b : Fed) → IsKept s → Feeds s r a t → Feeds s r b u → (a ≡ b) × (t ≡ u)
