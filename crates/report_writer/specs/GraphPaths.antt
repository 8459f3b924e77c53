-- The text of a path by the triples of the shapes graph: by what the node that stands for it has (SHACL 2.3.1).
use Rattle.std.specs.Prelude.{◌++◌, ℕ, zero, suc, List, [], ◌∷◌, length, map, codes}
use Rattle.std.specs.List.{flat_map}
use Rattle.rdf_model.specs.declared.term.Term.{Term}
use Rattle.rdf_model.specs.declared.term.Term.TheVariants.{Blank, Iri, Literal}
use Rattle.rdf_model.specs.declared.triple.Triple.{Triple}
use Rattle.rdf_model.specs.NTriples.{term_text}
use Rattle.shape_model.specs.Declarations.{values_of}
use Rattle.shape_model.specs.Vocabulary.{rdf_first, rdf_rest, sh}
use Rattle.report_writer.specs.PathTexts.{list_text, node_text}

-- the first of some texts
abbrev pub first_text : List (List ℕ) → List ℕ
first_text [] = []
first_text (t ∷ ts) = t

-- the members of the list that begins at the node (SHACL 1.1), of so many at most
abbrev pub members_at : ℕ → List Triple → Term → List Term
members_at zero s n = []
members_at (suc count) s n = values_of s n rdf_first ++ flat_map (members_at count s) (values_of s n rdf_rest)

-- the texts of a node and of others, with single spaces
abbrev pub joined_texts : (Term → List ℕ) → Term → List Term → List ℕ
joined_texts text m [] = text m
joined_texts text m (k ∷ ms) = text m ++ codes " " ++ joined_texts text k ms

-- the text of a list with these members, if there are any
abbrev pub text_of_members : (Term → List ℕ) → List Term → List (List ℕ)
text_of_members text [] = []
text_of_members text (m ∷ ms) = list_text (joined_texts text m ms) ∷ []

-- the text of a list of nodes that begins at the node; no list has more members than the graph has triples
abbrev pub list_texts : (Term → List ℕ) → List Triple → Term → List (List ℕ)
list_texts text s n = text_of_members text (members_at (length s) s n)

-- the text of each value of a property of SHACL
abbrev pub property_texts : (Term → List ℕ) → List Triple → Term → List ℕ → List (List ℕ)
property_texts text s n name = map (λ m. node_text (codes "sh:" ++ name) (text m)) (values_of s n (sh name))

-- the text of an IRI
abbrev pub iri_texts : Term → List (List ℕ)
iri_texts (Blank session number) = []
iri_texts (Iri iri) = term_text (Iri iri) ∷ []
iri_texts (Literal lexical datatype language) = []

-- The texts of a node by each way to stand for a path (SHACL 2.3.1.1 to 2.3.1.7), where text gives those of the nodes below.
-- A node that is a sequence may have other triples too, and so a list comes before the properties.
abbrev pub node_texts : (Term → List ℕ) → List Triple → Term → List (List ℕ)
node_texts text s n =
    iri_texts n
    ++ list_texts text s n
    ++ property_texts text s n (codes "inversePath")
    ++ property_texts (λ m. first_text (list_texts text s m)) s n (codes "alternativePath")
    ++ property_texts text s n (codes "zeroOrMorePath")
    ++ property_texts text s n (codes "oneOrMorePath")
    ++ property_texts text s n (codes "zeroOrOnePath")

-- the text of the path that the node stands for, where it is nested less deep than this number
abbrev pub path_text_at : ℕ → List Triple → Term → List ℕ
path_text_at zero s n = []
path_text_at (suc levels) s n = first_text (node_texts (path_text_at levels s) s n)
