-- What a text gives is read back from what is written of it.
use Rattle.std.proofs.Common.{ℕ, ◌≤◌, ◌^◌, List, [], ◌∷◌, Some, None, arith}
use Rattle.std.specs.List.{AllByRecursion}
use Rattle.rdf_model.specs.declared.term.Term.{Term}
use Rattle.rdf_model.specs.declared.term.Term.TheVariants.{Blank, Iri, Literal}
use Rattle.rdf_model.specs.declared.triple.Triple.{Triple}
use Rattle.ntriples_text.specs.Laws.{IsReadableSubject, IsReadableObject, IsReadable, IsStored, IsWithin}
use Rattle.ntriples_text.proofs.RoundTrip.{reads_named_again}
use Rattle.turtle_reader.specs.Laws.{ReadsBack}
use Rattle.turtle_reader.proofs.NodesWithin.{gives_readable}

-- the nodes of a text are such as a label of the store may name
module _ (session first next : ℕ) (low : 1 ≤ session) (high : session ≤ 64) (some : 1 ≤ first) (most : next ≤ 2 ^ 32) where
  node_stored : (s n : ℕ) → IsWithin session first next s n → IsStored s n
  node_stored s n h = (omega (arith, h.0, low), omega (arith, h.0, high), omega (arith, h.1, some), omega (arith, h.2, most))

  subject_stored : (t : Term) → IsReadableSubject (IsWithin session first next) t → IsReadableSubject IsStored t
  subject_stored (Blank s n) h = node_stored s n h
  subject_stored (Iri a) h = h
  subject_stored (Literal a b c) h = h

  object_stored : (t : Term) → IsReadableObject (IsWithin session first next) t → IsReadableObject IsStored t
  object_stored (Blank s n) h = node_stored s n h
  object_stored (Iri a) h = h
  object_stored (Literal a b None) h = h
  object_stored (Literal a b (Some c)) h = h

  all_stored : (ts : List Triple) → AllByRecursion (IsReadable (IsWithin session first next)) ts → AllByRecursion (IsReadable IsStored) ts
  all_stored [] h = tt
  all_stored (t ∷ ts) h =
      let one : IsReadable IsStored t = record { subject = subject_stored t.subject h.0.subject; predicate = h.0.predicate; object = object_stored t.object h.0.object } in
      (one, all_stored ts h.1)

pub reads_back : ReadsBack
reads_back bytes session first next triples h low high some most =
    let given = gives_readable bytes session first next triples h in
    reads_named_again triples (all_stored session first next low high some most triples given.1) given.2
