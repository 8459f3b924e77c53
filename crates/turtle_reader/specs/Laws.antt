-- What the productions say of their repetitions, and what a text gives.
use Rattle.std.specs.Prelude.{◌≡◌, ℕ, ◌^◌, ◌≤◌, List, Ok, if◌then◌else◌}
use Rattle.std.specs.List.{AllByRecursion}
use Rattle.collections.specs.Ordered.{IsAscending}
use Rattle.rdf_model.specs.declared.term.Term.{Term}
use Rattle.rdf_model.specs.declared.triple.Triple.{Triple}
use Rattle.rdf_model.specs.Terms.{triple_cmp}
use Rattle.ntriples_text.specs.Document.{reads_named}
use Rattle.ntriples_text.specs.Writing.{written}
use Rattle.ntriples_text.specs.Laws.{IsReadable, IsWithin}
use Rattle.turtle_reader.specs.declared.state.State.{State}
use Rattle.turtle_reader.specs.Parsers.{and_then, ◌>>=◌, give, many}
use Rattle.turtle_reader.specs.Tokens.{is_comma, is_semicolon, is_close_parenthesis, may_begin_verb, next, is_next, is_other, is_unfinished, where_next}
use Rattle.turtle_reader.specs.Grammar.{one_object, more_objects, verb_objects, more_verbs, next_member, object, statement, turtle_doc}
use Rattle.turtle_reader.specs.Document.{reads}

-- `( .. )*` goes on exactly as long as what it repeats may begin, whatever the text's length.

-- statement*: as long as anything is left of the text
abbrev pub RepeatsStatements : Type 0
RepeatsStatements = (text : List ℕ) (levels : ℕ) (s : State)
    → turtle_doc text levels s ≡ (if is_unfinished s then and_then (statement text levels s) (λ _. turtle_doc text levels) else Ok (tt, s))

-- `(',' object)*`: as long as a comma comes next
abbrev pub RepeatsObjects : Type 0
RepeatsObjects = (text : List ℕ) (levels : ℕ) (subject predicate : Term) (s : State)
    → more_objects text (object text levels) subject predicate s
    ≡ (if is_next is_comma s then and_then (next text s) (λ _. one_object (object text levels) subject predicate >>= λ _. more_objects text (object text levels) subject predicate) else Ok (tt, s))

-- `(';' (verb objectList)?)*`: as long as a semicolon comes next
abbrev pub RepeatsVerbs : Type 0
RepeatsVerbs = (text : List ℕ) (levels : ℕ) (subject : Term) (s : State)
    → more_verbs text (object text levels) subject s
    ≡ (if is_next is_semicolon s then and_then (next text s) (λ _. where_next may_begin_verb (verb_objects text (object text levels) subject) (give tt) >>= λ _. more_verbs text (object text levels) subject) else Ok (tt, s))

-- `object*` in a collection: as long as no `)` comes next
abbrev pub RepeatsMembers : Type 0
RepeatsMembers = (text : List ℕ) (levels : ℕ) (node : Term) (s : State)
    → many text (is_other is_close_parenthesis) (next_member text (object text levels)) node s
    ≡ (if is_other is_close_parenthesis s then and_then (next_member text (object text levels) node s) (many text (is_other is_close_parenthesis) (next_member text (object text levels))) else Ok (node, s))

-- The triples of a text ascend, and each can be written and read again (as `IsReadable` of N-Triples says); its blank nodes
-- are the session's, with numbers from first up to below next.
abbrev pub GivesReadable : Type 0
GivesReadable = (bytes : List ℕ) (session first next : ℕ) (triples : List Triple) → reads bytes session first ≡ Ok (triples, next)
    → (first ≤ next) × AllByRecursion (IsReadable (IsWithin session first next)) triples × IsAscending triple_cmp triples

-- What a text gives, written as N-Triples, is read again as the same triples, blank nodes included, by the labels of the
-- store: those of sessions 1 to 64, with numbers of 32 bits from 1.
abbrev pub ReadsBack : Type 0
ReadsBack = (bytes : List ℕ) (session first next : ℕ) (triples : List Triple) → reads bytes session first ≡ Ok (triples, next)
    → 1 ≤ session → session ≤ 64 → 1 ≤ first → next ≤ 2 ^ 32 → reads_named (written triples) ≡ Ok triples
