-- The line of a find, `find S P O`: which triples it asks for.
use Rattle.std.specs.Prelude.{ℕ, ◌-◌, Bool, true, false, not, ◌||◌, List, [], ◌∷◌, length, Option, Some, None, ◌==◌, if◌then◌else◌, slice_index, codes, bytes_eq}
use Rattle.std.specs.List.{filter, onto_first}
use Rattle.rdf_model.specs.declared.term.Term.{Term}
use Rattle.rdf_model.specs.declared.term.Term.TheVariants.{Blank, Iri, Literal}
use Rattle.rdf_model.specs.declared.pattern.Pattern.{Pattern}
use Rattle.ntriples_text.specs.Document.{named_term}
use Rattle.session_reader.specs.declared.find_line.LinePlace.{LinePlace}
use Rattle.session_reader.specs.declared.find_line.LinePlace.TheVariants.{Outside, Within, Escaped}
use Rattle.session_reader.specs.declared.find_line.Role.{Role}
use Rattle.session_reader.specs.declared.find_line.Role.TheVariants.{Subject, Predicate, Object}

abbrev pub is_blank : ℕ → Bool
is_blank c = c == 32 || c == 9

-- The place behind a character: a quote begins a string, and ends it where no backslash escapes it.
abbrev pub behind : LinePlace → ℕ → LinePlace
behind Outside c = if c == 34 then Within else Outside
behind Within c = if c == 34 then Outside else (if c == 92 then Escaped else Within)
behind Escaped c = Within

-- whether a character at a place is a blank that separates
abbrev pub separates : LinePlace → ℕ → Bool
separates Outside c = is_blank c
separates Within c = false
separates Escaped c = false

-- what stands between the blanks that are part of no string
abbrev pub pieces : LinePlace → List ℕ → List (List ℕ)
pieces place [] = [] ∷ []
pieces place (c ∷ cs) = if separates place c then [] ∷ pieces Outside cs else onto_first c (pieces (behind place c) cs)

-- the parts of a line: between two of them stands one blank or more
abbrev pub is_part : List ℕ → Bool
is_part text = not (length text == 0)

abbrev pub parts : List ℕ → List (List ℕ)
parts line = filter is_part (pieces Outside line)

-- a term may be a subject, a predicate or an object (RDF 1.1 section 3.1)
abbrev pub may_stand : Role → Term → Bool
may_stand Subject (Blank session number) = true
may_stand Subject (Iri iri) = true
may_stand Subject (Literal lexical datatype language) = false
may_stand Predicate (Blank session number) = false
may_stand Predicate (Iri iri) = true
may_stand Predicate (Literal lexical datatype language) = false
may_stand Object t = true

abbrev pub where_it_may : Role → Option Term → Option (Option Term)
where_it_may role (Some t) = if may_stand role t then Some (Some t) else None
where_it_may role None = None

-- what a part asks for: any term, or this one; None where it is neither `?` nor a term that may stand there
abbrev pub asked : Role → List ℕ → Option (Option Term)
asked role text = if bytes_eq text (codes "?") then Some None else where_it_may role (named_term text)

abbrev pub pattern_from : Option (Option Term) → Option (Option Term) → Option (Option Term) → Option Pattern
pattern_from (Some s) (Some p) (Some o) = Some (record { subject = s; predicate = p; object = o })
pattern_from _ _ _ = None

abbrev pub three_parts : List ℕ → List ℕ → List ℕ → Option Pattern
three_parts s p o = pattern_from (asked Subject s) (asked Predicate p) (asked Object o)

abbrev pub pattern_of : List (List ℕ) → Option Pattern
pattern_of (word ∷ s ∷ p ∷ o ∷ []) = if bytes_eq word (codes "find") then three_parts s p o else None
pattern_of _ = None

-- a blank at an end of a line
abbrev pub has_blank_end : List ℕ → Bool
has_blank_end line = is_blank (slice_index line 0) || is_blank (slice_index line (length line - 1))

-- the pattern of a find; None where the line is none
abbrev pub find_of : List ℕ → Option Pattern
find_of line = if has_blank_end line then None else pattern_of (parts line)
