-- A text of Turtle 1.1, whole: its triples, or the one refusal that counts.
use Rattle.std.specs.Prelude.{ℕ, ◌+◌, false, List, [], take, None, Result, Ok, Err, ◌==◌, if◌then◌else◌, count_by}
use Rattle.std.specs.Str.{chars, is_utf8}
use Rattle.std.specs.Str.Lossy.{utf8_valid_len}
use Rattle.rdf_model.specs.declared.triple.Triple.{Triple}
use Rattle.rdf_model.specs.Graphs.{with_each}
use Rattle.turtle_lex.specs.Tokens.{next_token}
use Rattle.turtle_reader.specs.declared.state.State.{State}
use Rattle.rdf_lexical.specs.declared.refusal.RefusalKind.TheVariants.{NotUtf8}
use Rattle.turtle_reader.specs.Parsers.{Outcome, Refusal}
use Rattle.turtle_reader.specs.Grammar.{turtle_doc}

-- before the first token
abbrev pub opening : List ℕ → ℕ → ℕ → State
opening text session first = record { ahead = next_token text 0 false; prefixes = []; base = None; labels = []; session = session; next = first; triples = [] }

-- the triples in the order of the text, and the next number of a blank node
abbrev pub found_by : Outcome (Unit {0}) → Result (List Triple × ℕ) Refusal
found_by (Ok r) = Ok (r.1.triples, r.1.next)
found_by (Err refusal) = Err refusal

-- 256 brackets may be open at once: 255 within one that is
abbrev pub found_in_text : List ℕ → ℕ → ℕ → Result (List Triple × ℕ) Refusal
found_in_text text session first = found_by (turtle_doc text 255 (opening text session first))

-- the triples each once, ascending
abbrev pub graph_of : Result (List Triple × ℕ) Refusal → Result (List Triple × ℕ) Refusal
graph_of (Ok found) = Ok (with_each [] found.0, found.1)
graph_of (Err refusal) = Err refusal

abbrev pub text_read : List ℕ → ℕ → ℕ → Result (List Triple × ℕ) Refusal
text_read text session first = graph_of (found_in_text text session first)

-- the line of the byte at a place
abbrev pub line_of : List ℕ → ℕ → ℕ
line_of bytes at = count_by (λ b. b == 10) (take at bytes) + 1

-- Reads: the triples of a text of this session, whose blank nodes are numbered from first; or its refusal, with the line.
-- Bytes that are no UTF-8 come before all else.
abbrev pub reads : List ℕ → ℕ → ℕ → Result (List Triple × ℕ) Refusal
reads bytes session first = if is_utf8 bytes then text_read (chars bytes) session first else Err (line_of bytes (utf8_valid_len bytes), NotUtf8)
