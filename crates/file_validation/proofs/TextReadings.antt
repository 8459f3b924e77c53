-- What is known of the texts of the data and of the shapes by what they were read to.
use Rattle.std.proofs.Common.{◌≡◌, List, [], Result, Ok, Err, ℕ, refl, subst}
use Rattle.std.specs.Prelude.{MatchResult}
use Rattle.file_validation.specs.declared.fault.InputFault.{InputFault}
use Rattle.outside.specs.Faults.{Refusal, Request}
use Rattle.rdf_lexical.specs.Refusals.{Refuses}
use Rattle.rdf_lexical.specs.declared.refusal.ReadFault.{ReadFault}
use Rattle.rdf_lexical.specs.declared.refusal.ReadFault.TheVariants as read
use Rattle.rdf_model.specs.declared.triple.Triple.{Triple}
use Rattle.rdf_model.specs.Graphs.{with_each}
use Rattle.turtle_reader.specs.Document.{reads}
use Rattle.file_validation.specs.declared.reading.TextReadings.{TextReadings}
use Rattle.file_validation.specs.Asked.{AsksInVain}
use Rattle.file_validation.specs.Readings.{AreReadings, both_read, of_data, of_shapes}
use Rattle.file_validation.specs.Validations.{IsCause, IsRead}
use Rattle.file_validation.proofs.Asks.{some_of_none}

module _ (data_text shapes_text : List ℕ) (r : TextReadings) (are : AreReadings data_text shapes_text r) where
  data_as : (x : Result (List Triple) ReadFault) → r.table ≡ x → MatchResult x (λ ts. IsRead 1 data_text (with_each [] ts)) (λ fault. Refuses fault (reads data_text 1 1))
  data_as x e = subst (λ (y : Result (List Triple) ReadFault). MatchResult y (λ ts. IsRead 1 data_text (with_each [] ts)) (λ fault. Refuses fault (reads data_text 1 1))) e are.data_read

  shapes_as : (x : Result (List Triple) ReadFault) → r.triples ≡ x → MatchResult x (IsRead 2 shapes_text) (λ fault. Refuses fault (reads shapes_text 2 1))
  shapes_as x e = subst (λ (y : Result (List Triple) ReadFault). MatchResult y (IsRead 2 shapes_text) (λ fault. Refuses fault (reads shapes_text 2 1))) e are.shapes_read

  pub data_read : (table : List Triple) → r.table ≡ Ok table → IsRead 1 data_text (with_each [] table)
  data_read table e = data_as (Ok table) e

  pub shapes_read : (triples : List Triple) → r.triples ≡ Ok triples → IsRead 2 shapes_text triples
  shapes_read triples e = shapes_as (Ok triples) e

  pub data_told : (fault : ReadFault) (old : List Refusal) → r.table ≡ Err fault → IsCause data_text shapes_text old old (of_data fault)
  data_told (read.Refusal line kind) old e = (data_as (Err (read.Refusal line kind)) e, refl)
  data_told read.Memory old e = refl

  pub shapes_told : (table : List Triple) (fault : ReadFault) (old : List Refusal) → r.table ≡ Ok table → r.triples ≡ Err fault → IsCause data_text shapes_text old old (of_shapes fault)
  shapes_told table (read.Refusal line kind) old d e = ((with_each [] table, data_read table d), shapes_as (Err (read.Refusal line kind)) e, refl)
  shapes_told table read.Memory old d e = refl

-- no pattern is asked for
pub data_asks : (shapes_text : List ℕ) (fault : ReadFault) (old : List Request) → AsksInVain shapes_text (of_data fault) old old
data_asks shapes_text (read.Refusal line kind) old = refl
data_asks shapes_text read.Memory old = some_of_none (reads shapes_text 2 1) old

pub shapes_asks : (shapes_text : List ℕ) (fault : ReadFault) (old : List Request) → AsksInVain shapes_text (of_shapes fault) old old
shapes_asks shapes_text (read.Refusal line kind) old = refl
shapes_asks shapes_text read.Memory old = some_of_none (reads shapes_text 2 1) old

-- the fault of both is that of one
both_told : (data_text shapes_text : List ℕ) (r : TextReadings) → AreReadings data_text shapes_text r → (t s : Result (List Triple) ReadFault) → r.table ≡ t → r.triples ≡ s
    → (fault : InputFault) (old : List Refusal) → both_read t s ≡ Err fault → IsCause data_text shapes_text old old fault
both_told d s r are (Err f) u et eu fault old e = subst (λ (x : Result (List Triple × List Triple) InputFault). MatchResult x (λ _. ⊥) (λ f. IsCause d s old old f)) e (data_told d s r are f old et)
both_told d s r are (Ok t) (Err f) et eu fault old e = subst (λ (x : Result (List Triple × List Triple) InputFault). MatchResult x (λ _. ⊥) (λ f. IsCause d s old old f)) e (shapes_told d s r are t f old et eu)
both_told d s r are (Ok t) (Ok u) et eu fault old e = cc

pub fault_of_both : (data_text shapes_text : List ℕ) (r : TextReadings) → AreReadings data_text shapes_text r → (fault : InputFault) (old : List Refusal) → both_read r.table r.triples ≡ Err fault → IsCause data_text shapes_text old old fault
fault_of_both d s r are fault old e = both_told d s r are r.table r.triples refl refl fault old e

-- and no pattern is asked for then
pub both_ask : (shapes_text : List ℕ) (t s : Result (List Triple) ReadFault) (fault : InputFault) (old : List Request) → both_read t s ≡ Err fault → AsksInVain shapes_text fault old old
both_ask text (Err f) u fault old e = subst (λ (x : Result (List Triple × List Triple) InputFault). MatchResult x (λ _. ⊥) (λ f. AsksInVain text f old old)) e (data_asks text f old)
both_ask text (Ok t) (Err f) fault old e = subst (λ (x : Result (List Triple × List Triple) InputFault). MatchResult x (λ _. ⊥) (λ f. AsksInVain text f old old)) e (shapes_asks text f old)
both_ask text (Ok t) (Ok u) fault old e = cc

-- both were read where no fault is told
abbrev AreBothRead : Result (List Triple) ReadFault → Result (List Triple) ReadFault → List Triple × List Triple → Type 0
AreBothRead t s both = (t ≡ Ok both.0) × (s ≡ Ok both.1)

pub both_were_read : (t s : Result (List Triple) ReadFault) (both : List Triple × List Triple) → both_read t s ≡ Ok both → AreBothRead t s both
both_were_read (Err f) u both e = cc
both_were_read (Ok t) (Err f) both e = cc
both_were_read (Ok t) (Ok u) both e = subst (λ (x : Result (List Triple × List Triple) InputFault). MatchResult x (AreBothRead (Ok t) (Ok u)) (λ _. ⊥)) e (refl, refl)
