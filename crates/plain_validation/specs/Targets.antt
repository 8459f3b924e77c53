-- The results of validation by the triples of a shapes graph alone.
use Rattle.std.specs.Prelude.{◌≡◌, ◌⊎◌, List}
use Rattle.std.specs.List.{Contains}
use Rattle.rdf_model.specs.declared.term.Term.{Term}
use Rattle.rdf_model.specs.declared.triple.Triple.{Triple}
use Rattle.shape_model.specs.Instances.{Instance}
use Rattle.shape_model.specs.Triples.{Has}
use Rattle.shape_model.specs.Validation.{At}
use Rattle.shape_model.specs.Vocabulary.{rdfs_class, ShTargetClass, ShTargetNode, ShTargetObjectsOf, ShTargetSubjectsOf, property_iri}
use Rattle.shape_model.specs.declared.result_row.ResultRow.{ResultRow}
use Rattle.plain_terms.specs.Finds.{HasSome}

-- some node has it as value of p
abbrev pub IsValue : List Triple → Term → Term → Type 0
IsValue g p f = (x : Term) × Has g x p f

-- The triple declares a target of its subject: the node itself (SHACL 2.1.3.1), an instance of the class (2.1.3.2), a subject (2.1.3.4)
-- or an object (2.1.3.5) of the predicate.
abbrev pub Declares : List Triple → Triple → Term → Type 0
Declares g t f =
    ((t.predicate ≡ property_iri ShTargetNode) × (t.object ≡ f))
    ⊎ ((t.predicate ≡ property_iri ShTargetClass) × Instance g f t.object)
    ⊎ ((t.predicate ≡ property_iri ShTargetSubjectsOf) × HasSome g t.object f)
    ⊎ ((t.predicate ≡ property_iri ShTargetObjectsOf) × IsValue g t.object f)

-- the triple's subject gives the result at a target that the triple declares; some triple's subject does
abbrev pub DeclaredRow : List Triple → List Triple → Triple → ResultRow → Type 0
DeclaredRow g s t r = (f : Term) × Declares g t f × At g s t.subject f r

abbrev pub DeclaredResult : List Triple → List Triple → ResultRow → Type 0
DeclaredResult g s r = (t : Triple) × Contains s t × DeclaredRow g s t r

-- the class gives the result at one of its instances; one of rdfs:Class in the shapes graph does (SHACL 2.1.3.3)
abbrev pub ClassRow : List Triple → List Triple → Term → ResultRow → Type 0
ClassRow g s class r = (f : Term) × Instance g f class × At g s class f r

abbrev pub ImplicitResult : List Triple → List Triple → ResultRow → Type 0
ImplicitResult g s r = (class : Term) × Instance s class rdfs_class × ClassRow g s class r
