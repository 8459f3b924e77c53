-- The numbers of the blank nodes in the records of a log.
use Rattle.std.specs.Prelude.{ℕ, zero, suc, ◌+◌, ◌≤◌, Bool, false, ◌||◌, Option, Some, None, List, [], ◌∷◌, ◌++◌, nat_eq, nat_lt, if◌then◌else◌}
use Rattle.std.specs.List.{flat_map, list_any}
use Rattle.rdf_model.specs.declared.term.Term.{Term}
use Rattle.rdf_model.specs.declared.term.Term.TheVariants.{Blank, Iri, Literal}
use Rattle.rdf_model.specs.declared.triple.Triple.{Triple}
use Rattle.store_model.specs.Store.{terms_of}
use Rattle.record_text.specs.declared.record.Record.{Record}
use Rattle.commit_core.specs.Restored.{record_terms}

-- the terms of all records, in order
abbrev pub terms_in : List Record → List Term
terms_in records = flat_map record_terms records

-- A session numbers the blank nodes of a file one after another, of at most 16,777,216 bytes. Above this number there may not be
-- enough numbers left.
abbrev pub most_number : ℕ
most_number = 4278190078

abbrev pub is_past_most : Term → Bool
is_past_most (Blank session number) = nat_lt most_number number
is_past_most (Iri a) = false
is_past_most (Literal lexical datatype language) = false

-- a blank node of the records has a greater number
abbrev pub is_spent : List Record → Bool
is_spent records = list_any is_past_most (terms_in records)

-- the number of a blank node of this session, and 0 of each other term
abbrev pub number_in : ℕ → Term → ℕ
number_in session (Blank s n) = if nat_eq s session then n else 0
number_in session (Iri a) = 0
number_in session (Literal lexical datatype language) = 0

abbrev pub larger : ℕ → ℕ → ℕ
larger a b = if nat_lt a b then b else a

-- the greatest number of a blank node of the session, 0 where there is none
abbrev pub greatest : ℕ → List Term → ℕ
greatest session [] = 0
greatest session (t ∷ ts) = larger (number_in session t) (greatest session ts)

-- The first number that a session may give to a blank node: one past the greatest that it has in a record, or 1 where it has none.
abbrev pub first_number : List Record → ℕ → ℕ
first_number records session = greatest session (terms_in records) + 1

-- those of the sessions from 1 to this one
abbrev pub first_numbers : List Record → ℕ → List ℕ
first_numbers records zero = []
first_numbers records (suc n) = first_numbers records n ++ first_number records (n + 1) ∷ []

-- from this number on a file's blank nodes can be numbered below 2^32
abbrev pub IsFirstNumber : ℕ → Type 0
IsFirstNumber n = (1 ≤ n) × (n ≤ most_number + 1)

-- The same as `is_spent`, triple by triple; not seen by any caller.
abbrev pub have_past_most : List Triple → Bool
have_past_most triples = list_any (λ t. list_any is_past_most (terms_of t)) triples

abbrev pub have_shapes_past_most : Option (List Triple) → Bool
have_shapes_past_most None = false
have_shapes_past_most (Some triples) = have_past_most triples

abbrev pub has_record_past_most : Record → Bool
has_record_past_most r = have_past_most r.removed || have_past_most r.added || have_shapes_past_most r.shapes
