-- The graph of a text can be read again with the labels of the store.
use Rattle.std.proofs.Common.{ℕ, ◌≤◌, ◌^◌, List, [], ◌∷◌, Some, None, arith}
use Rattle.std.specs.List.{AllByRecursion}
use Rattle.rdf_model.specs.declared.term.Term.{Term}
use Rattle.rdf_model.specs.declared.term.Term.TheVariants.{Blank, Iri, Literal}
use Rattle.rdf_model.specs.declared.triple.Triple.{Triple}
use Rattle.ntriples_text.specs.Laws.{IsReadable, IsReadableObject, IsReadableSubject, IsStored, IsWithin}
use Rattle.turtle_reader.proofs.NodesWithin.{gives_readable}
use Rattle.verdict_laws.specs.Laws.{AreReadable}
use Rattle.file_validation.specs.Validations.{IsRead}

module _ (session next : ℕ) (low : 1 ≤ session) (high : session ≤ 64) (most : next ≤ 2 ^ 32) where
  node_stored : (s n : ℕ) → IsWithin session 1 next s n → IsStored s n
  node_stored s n h = (omega (arith, h.0, low), omega (arith, h.0, high), omega (arith, h.1), omega (arith, h.2, most))

  subject_stored : (t : Term) → IsReadableSubject (IsWithin session 1 next) t → IsReadableSubject IsStored t
  subject_stored (Blank s n) h = node_stored s n h
  subject_stored (Iri a) h = h
  subject_stored (Literal a b c) h = h

  object_stored : (t : Term) → IsReadableObject (IsWithin session 1 next) t → IsReadableObject IsStored t
  object_stored (Blank s n) h = node_stored s n h
  object_stored (Iri a) h = h
  object_stored (Literal a b None) h = h
  object_stored (Literal a b (Some c)) h = h

  all_stored : (ts : List Triple) → AllByRecursion (IsReadable (IsWithin session 1 next)) ts → AllByRecursion (IsReadable IsStored) ts
  all_stored [] h = tt
  all_stored (t ∷ ts) h =
      let one : IsReadable IsStored t = record { subject = subject_stored t.subject h.0.subject; predicate = h.0.predicate; object = object_stored t.object h.0.object } in
      (one, all_stored ts h.1)

pub read_readable : (session : ℕ) (text : List ℕ) (ts : List Triple) → 1 ≤ session → session ≤ 64 → IsRead session text ts → AreReadable ts
read_readable session text ts low high read = all_stored session read.0 low high read.2 ts (gives_readable text session 1 read.0 ts read.1).1
