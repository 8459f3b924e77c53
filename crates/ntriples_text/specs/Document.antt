-- A text of N-Triples 1.1, whole: its triples, or the one refusal that counts.
use Rattle.std.specs.Prelude.{ℕ, ◌+◌, ◌-◌, List, [], ◌∷◌, length, take, map, Option, Some, None, Result, Ok, Err, ◌==◌, if◌then◌else◌, slice_index}
use Rattle.std.specs.List.{onto_first, count_by}
use Rattle.std.specs.Str.{chars, is_utf8}
use Rattle.std.specs.Str.Lossy.{utf8_valid_len}
use Rattle.rdf_model.specs.declared.term.Term.{Term}
use Rattle.rdf_model.specs.declared.triple.Triple.{Triple}
use Rattle.rdf_model.specs.Graphs.{with_each}
use Rattle.rdf_lexical.specs.declared.refusal.RefusalKind.{RefusalKind}
use Rattle.rdf_lexical.specs.declared.refusal.RefusalKind.TheVariants.{NotUtf8}
use Rattle.rdf_lexical.specs.Characters.{is_line_end}
use Rattle.ntriples_text.specs.declared.statement.Statement.{Statement}
use Rattle.ntriples_text.specs.declared.statement.LabelKind.{LabelKind}
use Rattle.ntriples_text.specs.declared.statement.LabelKind.TheVariants.{OfText, OfStore}
use Rattle.ntriples_text.specs.Grammar.{line, alone}
use Rattle.ntriples_text.specs.Blanks.{all_labels, once, triple_of}

-- the lines of a text, each with the CR or LF that ends it; the last may have none
abbrev pub lines : List ℕ → List (List ℕ)
lines [] = []
lines (c ∷ cs) = if is_line_end c then (c ∷ []) ∷ lines cs else onto_first c (lines cs)

-- Lines are counted by LF: the number of what follows line n.
abbrev pub number_after : ℕ → List ℕ → ℕ
number_after n cs = if slice_index cs (length cs - 1) == 10 then n + 1 else n

-- what a statement, and what a line, adds to the statements of the lines after it
abbrev pub with_statement : Statement → Result (List Statement) (ℕ × RefusalKind) → Result (List Statement) (ℕ × RefusalKind)
with_statement s (Ok ss) = Ok (s ∷ ss)
with_statement s (Err fault) = Err fault

abbrev pub with_line : ℕ → Result (Option Statement) RefusalKind → Result (List Statement) (ℕ × RefusalKind) → Result (List Statement) (ℕ × RefusalKind)
with_line n (Err kind) more = Err (n, kind)
with_line n (Ok None) more = more
with_line n (Ok (Some s)) more = with_statement s more

-- the statements of the lines, the first of which has number n; or the first line that is refused
abbrev pub lines_from : LabelKind → ℕ → List (List ℕ) → Result (List Statement) (ℕ × RefusalKind)
lines_from labels n [] = Ok []
lines_from labels n (l ∷ ls) = with_line n (line labels l) (lines_from labels (number_after n l) ls)

-- the triples of statements with these labels, each once, ascending; and the next number of a blank node
abbrev pub with_labels : ℕ → ℕ → List (List ℕ) → List Statement → List Triple × ℕ
with_labels session first labels ss = (with_each [] (map (triple_of session first labels) ss), first + length labels)

abbrev pub numbered : ℕ → ℕ → Result (List Statement) (ℕ × RefusalKind) → Result (List Triple × ℕ) (ℕ × RefusalKind)
numbered session first (Ok ss) = Ok (with_labels session first (once (all_labels ss)) ss)
numbered session first (Err fault) = Err fault

-- the line of the byte at a place
abbrev pub line_of : List ℕ → ℕ → ℕ
line_of bytes at = count_by (λ b. b == 10) (take at bytes) + 1

-- The triples of a text of this session, whose blank nodes are numbered from first, and the next number; or its refusal,
-- with the line. Bytes that are no UTF-8 come before all else.
abbrev pub reads_by : LabelKind → List ℕ → ℕ → ℕ → Result (List Triple × ℕ) (ℕ × RefusalKind)
reads_by labels bytes session first = if is_utf8 bytes then numbered session first (lines_from labels 1 (lines (chars bytes))) else Err (line_of bytes (utf8_valid_len bytes), NotUtf8)

-- Reads: each label is a blank node of the text, and gets a number.
abbrev pub reads : List ℕ → ℕ → ℕ → Result (List Triple × ℕ) (ℕ × RefusalKind)
reads bytes session first = reads_by OfText bytes session first

abbrev pub triples_of : Result (List Triple × ℕ) (ℕ × RefusalKind) → Result (List Triple) (ℕ × RefusalKind)
triples_of (Ok r) = Ok r.0
triples_of (Err fault) = Err fault

-- ReadsNamed: each label is that of a blank node of the store; so no node is numbered, and any session and first number
-- would do.
abbrev pub reads_named : List ℕ → Result (List Triple) (ℕ × RefusalKind)
reads_named bytes = triples_of (reads_by OfStore bytes 1 1)

-- the term that bytes give alone, with the labels of the store
abbrev pub named_term : List ℕ → Option Term
named_term bytes = if is_utf8 bytes then alone (chars bytes) else None
