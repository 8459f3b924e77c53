-- The blank nodes of a text: one for each of its labels (N-Triples 1.1 section 2.4), numbered in the order of their
-- first appearance, the subject before the object.
use Rattle.std.specs.Prelude.{ℕ, ◌+◌, not, List, [], ◌∷◌, ◌++◌, bytes_eq}
use Rattle.std.specs.List.{filter, flat_map, position_or_len}
use Rattle.rdf_model.specs.declared.term.Term.{Term}
use Rattle.rdf_model.specs.declared.term.Term.TheVariants.{Blank, Iri}
use Rattle.rdf_model.specs.declared.triple.Triple.{Triple}
use Rattle.ntriples_text.specs.declared.statement.Node.{Node}
use Rattle.ntriples_text.specs.declared.statement.Node.TheVariants.{Labelled, Plain}
use Rattle.ntriples_text.specs.declared.statement.Statement.{Statement}

-- the labels of statements, in the order of the text
abbrev pub node_labels : Node → List (List ℕ)
node_labels (Labelled label) = label ∷ []
node_labels (Plain term) = []

abbrev pub statement_labels : Statement → List (List ℕ)
statement_labels s = node_labels s.subject ++ node_labels s.object

abbrev pub all_labels : List Statement → List (List ℕ)
all_labels ss = flat_map statement_labels ss

-- each label once, where it appears first
abbrev pub once : List (List ℕ) → List (List ℕ)
once [] = []
once (l ∷ ls) = l ∷ filter (λ m. not (bytes_eq l m)) (once ls)

-- The terms that nodes stand for: the blank node of a label has its place among the labels, counted from first.
abbrev pub term_of : ℕ → ℕ → List (List ℕ) → Node → Term
term_of session first labels (Labelled label) = Blank session (first + position_or_len (bytes_eq label) labels)
term_of session first labels (Plain term) = term

abbrev pub triple_of : ℕ → ℕ → List (List ℕ) → Statement → Triple
triple_of session first labels s = record { subject = term_of session first labels s.subject; predicate = Iri s.predicate; object = term_of session first labels s.object }
