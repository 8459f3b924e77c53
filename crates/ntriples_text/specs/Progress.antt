-- How far the reading of a text has come.
use Rattle.std.specs.Prelude.{ℕ, ◌<◌, ◌≤◌, List, [], ◌∷◌, ◌++◌, Result, Ok, Err, bytes_eq}
use Rattle.rdf_model.specs.declared.triple.Triple.{Triple}
use Rattle.indexmap.specs.IndexSet.{insert_key}
use Rattle.rdf_lexical.specs.declared.refusal.RefusalKind.{RefusalKind}
use Rattle.ntriples_text.specs.declared.token.Token.{Token}
use Rattle.ntriples_text.specs.declared.token.Token.TheVariants.{TextEnd}
use Rattle.ntriples_text.specs.declared.statement.Statement.{Statement}
use Rattle.ntriples_text.specs.Blanks.{statement_labels, all_labels, triple_of}

-- the labels so far, with further ones
abbrev pub with_more : List (List ℕ) → List (List ℕ) → List (List ℕ)
with_more known [] = known
with_more known (l ∷ ls) = with_more (insert_key bytes_eq known l) ls

-- the triples of statements, each numbered with the labels up to it
abbrev pub triples_after : ℕ → ℕ → List (List ℕ) → List Statement → List Triple
triples_after session first known [] = []
triples_after session first known (s ∷ ss) = triple_of session first (with_more known (statement_labels s)) s ∷ triples_after session first (with_more known (statement_labels s)) ss

-- the triples and labels so far, before those of the rest
abbrev pub Found : Type 0
Found = Result (List Triple × List (List ℕ)) (ℕ × RefusalKind)

abbrev pub going_on : ℕ → ℕ → List Triple → List (List ℕ) → Result (List Statement) (ℕ × RefusalKind) → Found
going_on session first triples known (Ok ss) = Ok (triples ++ triples_after session first known ss, with_more known (all_labels ss))
going_on session first triples known (Err fault) = Err fault

-- a token takes a character or more, unless the text ends there
abbrev pub TakesOne : Token → ℕ → ℕ → Type 0
TakesOne TextEnd left before = left ≤ before
TakesOne _ left before = left < before
