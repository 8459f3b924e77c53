-- The triples of a block that was read can be read again, and ascend.
use Rattle.std.proofs.Common.{◌≡◌, ℕ, ◌<◌, ◌≤◌, ◌^◌, List, [], ◌∷◌, Some, None, Result, Ok, Err, IfOk, ◌∙◌, ap, sym, arith}
use Rattle.std.specs.List.{AllByRecursion}
use Rattle.rdf_model.specs.declared.term.Term.{Term}
use Rattle.rdf_model.specs.declared.term.Term.TheVariants.{Blank, Iri, Literal}
use Rattle.rdf_model.specs.declared.triple.Triple.{Triple}
use Rattle.ntriples_text.specs.Laws.{IsReadable, IsReadableObject, IsReadableSubject, IsStored, IsWithin}
use Rattle.ntriples_text.proofs.Gives.{gives_readable}
use Rattle.ntriples_text.specs.Document.{reads_named}
use Rattle.record_text.specs.Records.{IsReadableGraph}
use Rattle.record_text.proofs.StoredTerms.{gives_readable_graph}
use Rattle.rdf_lexical.specs.declared.refusal.RefusalKind.{RefusalKind}
use Rattle.turtle_reader.proofs.NodesWithin.{gives_readable as turtle_readable}
use Rattle.session_reader.specs.declared.read_command.ReadCommand.{ReadCommand}
use Rattle.session_reader.specs.declared.line.Syntax.{Syntax}
use Rattle.session_reader.specs.declared.line.Syntax.TheVariants.{NTriples, Turtle}
use Rattle.session_reader.specs.declared.line.BlockKind.{BlockKind}
use Rattle.session_reader.specs.declared.line.BlockKind.TheVariants as blocks
use Rattle.session_reader.specs.SessionFile.{block_command, block_reading, new_reading, next_after, numbering_none}

-- the nodes of a session from 1 to 64, with numbers of 32 bits from 1, are such as a label of the store may name
module _ (session first next : ℕ) (low : 1 ≤ session) (high : session ≤ 64) (some : 1 ≤ first) (most : next < 2 ^ 32) where
  node_stored : (s n : ℕ) → IsWithin session first next s n → IsStored s n
  node_stored s n h = (omega (arith, h.0, low), omega (arith, h.0, high), omega (arith, h.1, some), omega (arith, h.2, most))

  subject_stored : (t : Term) → IsReadableSubject (IsWithin session first next) t → IsReadableSubject IsStored t
  subject_stored (Blank s n) h = node_stored s n h
  subject_stored (Iri a) h = h
  subject_stored (Literal a b c) h = h

  object_stored : (t : Term) → IsReadableObject (IsWithin session first next) t → IsReadableObject IsStored t
  object_stored (Blank s n) h = node_stored s n h
  object_stored (Iri a) h = h
  object_stored (Literal a b None) h = h
  object_stored (Literal a b (Some c)) h = h

  all_stored : (ts : List Triple) → AllByRecursion (IsReadable (IsWithin session first next)) ts → AllByRecursion (IsReadable IsStored) ts
  all_stored [] h = tt
  all_stored (t ∷ ts) h =
      let one : IsReadable IsStored t = record { subject = subject_stored t.subject h.0.subject; predicate = h.0.predicate; object = object_stored t.object h.0.object } in
      (one, all_stored ts h.1)

pub new_readable : (syntax : Syntax) (bytes : List ℕ) (session first next : ℕ) (triples : List Triple) → new_reading syntax bytes session first ≡ Ok (triples, next)
    → 1 ≤ session → session ≤ 64 → 1 ≤ first → next < 2 ^ 32 → IsReadableGraph triples
new_readable NTriples bytes session first next triples h low high some most =
    let given = gives_readable bytes session first next triples h in
    (all_stored session first next low high some most triples given.1, given.2)
new_readable Turtle bytes session first next triples h low high some most =
    let given = turtle_readable bytes session first next triples h in
    (all_stored session first next low high some most triples given.1, given.2)

-- a reading that numbers no blank node has the triples that were read
numbered_none : (first next : ℕ) (triples : List Triple) (r : Result (List Triple) (ℕ × RefusalKind)) → numbering_none first r ≡ Ok (triples, next) → r ≡ Ok triples
numbered_none first next triples (Ok ts) h = let same : (ts, first) ≡ (triples, next) = cc in ap (λ (p : List Triple × ℕ). Ok p.0) same
numbered_none first next triples (Err e) h = cc

-- so do those of any block
pub block_readable : (kind : BlockKind) (bytes : List ℕ) (session first next : ℕ) (triples : List Triple) → block_reading kind bytes session first ≡ Ok (triples, next)
    → 1 ≤ session → session ≤ 64 → 1 ≤ first → next < 2 ^ 32 → IsReadableGraph triples
block_readable (blocks.Add syntax) bytes session first next triples h low high some most = new_readable syntax bytes session first next triples h low high some most
block_readable blocks.Remove bytes session first next triples h low high some most = gives_readable_graph bytes triples (numbered_none first next triples (reads_named bytes) h)
block_readable blocks.Attach bytes session first next triples h low high some most = gives_readable_graph bytes triples (numbered_none first next triples (reads_named bytes) h)
block_readable (blocks.Shapes syntax) bytes session first next triples h low high some most = new_readable syntax bytes session first next triples h low high some most

-- the command of a block that was read
pub command_read : {E : Type 0} (kind : BlockKind) (r : Result ReadCommand E) (reading : Result (List Triple × ℕ) (ℕ × RefusalKind)) (triples : List Triple) (first next : ℕ) → reading ≡ Ok (triples, next)
    → IfOk r (λ c. c ≡ block_command kind (Ok (triples, next))) → IfOk r (λ c. (c ≡ block_command kind reading) × (next ≡ next_after first reading))
command_read {E} kind (Ok c) reading triples first next e h = (h ∙ ap (block_command kind) (sym e), sym (ap (next_after first) e))
command_read {E} kind (Err x) reading triples first next e h = tt
