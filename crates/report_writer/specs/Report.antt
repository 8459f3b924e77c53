-- The text of a validation report (SHACL 3.6): Turtle, one statement a line, by the triples of the shapes graph.
use Rattle.std.specs.Prelude.{◌+◌, ℕ, List, [], ◌∷◌, ◌++◌, Option, Some, None, codes, map}
use Rattle.std.specs.List.{flat_map}
use Rattle.std.specs.Fmt.{decimal}
use Rattle.rdf_model.specs.declared.term.Term.{Term}
use Rattle.rdf_model.specs.declared.triple.Triple.{Triple}
use Rattle.rdf_model.specs.NTriples.{term_text}
use Rattle.shape_model.specs.Limits.{levels_limit}
use Rattle.shape_model.specs.declared.component.Component.{Component}
use Rattle.shape_model.specs.declared.component.Component.TheVariants as components
use Rattle.shape_model.specs.declared.result_row.ResultRow.{ResultRow}
use Rattle.shape_model.specs.Declarations.{messages_of, severity_of, values_of}
use Rattle.shape_model.specs.Vocabulary.{ShPath, property_iri}
use Rattle.report_writer.specs.GraphPaths.{path_text_at}

abbrev pub first_of : List Term → List Term
first_of [] = []
first_of (x ∷ xs) = x ∷ []

abbrev pub listed : Option Term → List Term
listed None = []
listed (Some t) = t ∷ []

-- the text of the path of a result (SHACL 3.6.2.2): that of the predicate which a closed shape doesn't allow, else of
-- the path of its source shape, if that is a property shape
abbrev pub path_by : Component → List (List ℕ) → List (List ℕ) → List (List ℕ)
path_by components.Closed other own = other
path_by c other own = own

-- by the triples: the path of a property shape is that of its sh:path (SHACL 2.3.1)
abbrev pub path_of : List Triple → ResultRow → List (List ℕ)
path_of s r = path_by r.component (map term_text (listed r.other)) (map (path_text_at levels_limit s) (first_of (values_of s r.source_shape (property_iri ShPath))))

-- the local name of a component's IRI (SHACL 4), without `ConstraintComponent`
abbrev pub component_name : Component → List ℕ
component_name components.Class = codes "Class"
component_name components.Datatype = codes "Datatype"
component_name components.NodeKind = codes "NodeKind"
component_name components.MinCount = codes "MinCount"
component_name components.MaxCount = codes "MaxCount"
component_name components.MinExclusive = codes "MinExclusive"
component_name components.MinInclusive = codes "MinInclusive"
component_name components.MaxExclusive = codes "MaxExclusive"
component_name components.MaxInclusive = codes "MaxInclusive"
component_name components.MinLength = codes "MinLength"
component_name components.MaxLength = codes "MaxLength"
component_name components.Pattern = codes "Pattern"
component_name components.LanguageIn = codes "LanguageIn"
component_name components.UniqueLang = codes "UniqueLang"
component_name components.Equals = codes "Equals"
component_name components.Disjoint = codes "Disjoint"
component_name components.LessThan = codes "LessThan"
component_name components.LessThanOrEquals = codes "LessThanOrEquals"
component_name components.Not = codes "Not"
component_name components.And = codes "And"
component_name components.Or = codes "Or"
component_name components.Xone = codes "Xone"
component_name components.Node = codes "Node"
component_name components.QualifiedMinCount = codes "QualifiedMinCount"
component_name components.QualifiedMaxCount = codes "QualifiedMaxCount"
component_name components.Closed = codes "Closed"
component_name components.HasValue = codes "HasValue"
component_name components.In = codes "In"

-- a line of the text: subject, predicate, object and the dot, with single spaces
abbrev pub statement : List ℕ → List ℕ → List ℕ → List ℕ
statement subject predicate object = subject ++ codes " " ++ predicate ++ codes " " ++ object ++ codes " .\n"

-- a line for each of the objects, and for each of the terms
abbrev pub statements : List ℕ → List ℕ → List (List ℕ) → List ℕ
statements subject predicate objects = flat_map (statement subject predicate) objects

abbrev pub term_statements : List ℕ → List ℕ → List Term → List ℕ
term_statements subject predicate terms = statements subject predicate (map term_text terms)

-- the label of the i-th result
abbrev pub result_label : ℕ → List ℕ
result_label i = codes "_:r" ++ decimal i

-- the lines of one result (SHACL 3.6.2), under its label, with the text of its path if it has one, its severity and its messages
abbrev pub result_lines : List ℕ → ResultRow → List (List ℕ) → Term → List Term → List ℕ
result_lines label r path severity messages =
    statement (codes "_:r") (codes "sh:result") label
    ++ statement label (codes "a") (codes "sh:ValidationResult")
    ++ statement label (codes "sh:focusNode") (term_text r.focus_node)
    ++ statements label (codes "sh:resultPath") path
    ++ term_statements label (codes "sh:value") (listed r.value)
    ++ statement label (codes "sh:resultSeverity") (term_text severity)
    ++ statement label (codes "sh:sourceShape") (term_text r.source_shape)
    ++ statement label (codes "sh:sourceConstraintComponent") (codes "sh:" ++ component_name r.component ++ codes "ConstraintComponent")
    ++ term_statements label (codes "sh:resultMessage") messages

-- by the triples of the shapes graph
abbrev pub result_text : List Triple → List ℕ → ResultRow → List ℕ
result_text s label r = result_lines label r (path_of s r) (severity_of s r.source_shape) (messages_of s r.source_shape)

-- the results from number i on, each with these lines
abbrev pub results_by : (List ℕ → ResultRow → List ℕ) → ℕ → List ResultRow → List ℕ
results_by text i [] = []
results_by text i (r ∷ rows) = text (result_label i) r ++ results_by text (i + 1) rows

-- whether the data graph conforms (SHACL 3.6.1.1)
abbrev pub conforms_text : List ResultRow → List ℕ
conforms_text [] = codes "true"
conforms_text (r ∷ rows) = codes "false"

-- the report of these results, each with these lines
abbrev pub report_by : (List ℕ → ResultRow → List ℕ) → List ResultRow → List ℕ
report_by text rows =
    codes "@prefix sh: <http://www.w3.org/ns/shacl#> .\n"
    ++ statement (codes "_:r") (codes "a") (codes "sh:ValidationReport")
    ++ statement (codes "_:r") (codes "sh:conforms") (conforms_text rows)
    ++ results_by text 1 rows

-- ReportText: the report of these results under the shapes graph s (SHACL 3.6)
abbrev pub report_text : List Triple → List ResultRow → List ℕ
report_text s rows = report_by (result_text s) rows
