-- Worked rows.
use Rattle.std.specs.Prelude.{◌≡◌, ℕ, pos, negsuc, List, [], ◌∷◌, ◌++◌, Some, None, codes}
use Rattle.rdf_model.specs.declared.term.Term.{Term}
use Rattle.rdf_model.specs.declared.term.Term.TheVariants.{Iri, Literal}
use Rattle.rdf_model.specs.declared.triple.Triple.{Triple}
use Rattle.shape_model.specs.declared.component.Component.TheVariants as components
use Rattle.shape_model.specs.TermTests.{count_of}
use Rattle.shape_model.specs.Validation.{IsResult}
use Rattle.shape_model.specs.Vocabulary as vocabulary
use Rattle.shape_model.specs.Vocabulary.{ShMinCount, ShNodeKind, ShPath, ShTargetNode, ShTargetSubjectsOf, sh, xsd_integer}
use Rattle.shape_rules.specs.Broken.{IsBroken}
use Rattle.shape_properties.specs.Properties.{property_iri}
use Rattle.shape_rules.specs.Rows.{row}
use Rattle.shape_properties.specs.declared.property.ShapeProperty.TheVariants as properties
use Rattle.shape_model.specs.declared.result_row.ResultRow.{ResultRow}

abbrev pub example : List ℕ → Term
example name = Iri (codes "e:" ++ name)

abbrev pub letter : Term
letter = Literal (codes "x") (codes "http://www.w3.org/2001/XMLSchema#string") None

-- A property shape whose targets are the subjects of e:p, whose path is e:p and whose values are to be IRIs, and a
-- graph in which a value is a literal.
abbrev pub asks_for_iri : Triple
asks_for_iri = record { subject = example (codes "P"); predicate = vocabulary.property_iri ShNodeKind; object = sh (codes "IRI") }

abbrev pub along_p : Triple
along_p = record { subject = example (codes "P"); predicate = vocabulary.property_iri ShPath; object = example (codes "p") }

abbrev pub from_subjects : Triple
from_subjects = record { subject = example (codes "P"); predicate = vocabulary.property_iri ShTargetSubjectsOf; object = example (codes "p") }

abbrev pub example_shapes : List Triple
example_shapes = asks_for_iri ∷ along_p ∷ from_subjects ∷ []

abbrev pub example_graph : List Triple
example_graph = record { subject = example (codes "a"); predicate = example (codes "p"); object = letter } ∷ []

abbrev pub example_row : ResultRow
example_row = record { source_shape = example (codes "P"); focus_node = example (codes "a"); component = components.NodeKind; parameter = Some (sh (codes "IRI")); about = Some letter; value = Some letter; other = None }

-- the literal is reported (SHACL 4.1.3)
abbrev pub NodeKindExample : Type 0
NodeKindExample = IsResult example_graph example_shapes example_row

-- A property shape with the target node e:a, the path e:p and at least one value, and a graph without a triple.
abbrev pub integer : List ℕ → Term
integer lexical = Literal lexical xsd_integer None

abbrev pub asks_for_one : Triple
asks_for_one = record { subject = example (codes "P"); predicate = vocabulary.property_iri ShMinCount; object = integer (codes "1") }

abbrev pub from_a : Triple
from_a = record { subject = example (codes "P"); predicate = vocabulary.property_iri ShTargetNode; object = example (codes "a") }

abbrev pub count_shapes : List Triple
count_shapes = asks_for_one ∷ along_p ∷ from_a ∷ []

abbrev pub count_row : ResultRow
count_row = record { source_shape = example (codes "P"); focus_node = example (codes "a"); component = components.MinCount; parameter = Some (integer (codes "1")); about = None; value = None; other = None }

-- the missing value is reported (SHACL 4.2.1)
abbrev pub MinCountExample : Type 0
MinCountExample = IsResult [] count_shapes count_row

-- which literals say a count
abbrev pub CountExample : Type 0
CountExample =
    (count_of (integer (codes "1")) ≡ Some (pos 1))
    × (count_of (integer (codes "007")) ≡ Some (pos 7))
    × (count_of (integer (codes "+1")) ≡ Some (pos 1))
    × (count_of (integer (codes "-1")) ≡ Some (negsuc 0))
    × (count_of (integer (codes "99999999999999999999")) ≡ Some (pos 99_999_999_999_999_999_999))
    × (count_of (integer []) ≡ None)
    × (count_of (integer (codes "1.0")) ≡ None)
    × (count_of (Literal (codes "1") (codes "http://www.w3.org/2001/XMLSchema#int") None) ≡ None)
    × (count_of (example (codes "1")) ≡ None)

-- A node with a property that is beyond SHACL Core breaks rule 39.
abbrev pub forbidden_shapes : List Triple
forbidden_shapes = record { subject = example (codes "P"); predicate = property_iri properties.Sparql; object = letter } ∷ []

abbrev pub ForbiddenExample : Type 0
ForbiddenExample = IsBroken forbidden_shapes (row (example (codes "P")) 39 (Some (property_iri properties.Sparql)))
