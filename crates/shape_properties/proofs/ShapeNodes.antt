-- The nodes that are shapes, as they are gathered.
use Rattle.std.proofs.Common.{List, refl, inl, inr}
use Rattle.std.specs.Prelude.{◌↔◌}
use Rattle.std.specs.List.{Contains}
use Rattle.rdf_model.specs.declared.term.Term.{Term}
use Rattle.rdf_model.specs.declared.triple.Triple.{Triple}
use Rattle.shape_model.specs.Vocabulary.{rdf_type}
use Rattle.shape_model.specs.Instances.{Instance}
use Rattle.shape_syntax.specs.Gathering.{Gives, HasGathered}
use Rattle.shape_syntax.specs.Subjects.{IsSubject}
use Rattle.shape_syntax.proofs.Values.{value_of}
use Rattle.shape_properties.specs.Properties.{property_iri}
use Rattle.shape_properties.specs.OfProperties.{IsShapeAt, SaysShape, TakenBy}
use Rattle.shape_properties.specs.Syntax.{IsShape, IsTaken}

-- what the triples take is what is taken
taken_by : (s : List Triple) (n : Term) → Gives (TakenBy s) s n ↔ IsTaken s n
taken_by s n = (
  λ h. let t = h.0 in (t.subject, (h.2.0, t.object, value_of s t.subject (property_iri h.2.0) t (h.1, refl, h.2.1), h.2.2)),
  λ h. (record { subject = h.0; predicate = property_iri h.1.0; object = h.1.1 }, h.1.2, (h.1.0, refl, h.1.3)),
)

type_subject : (s : List Triple) (n class : Term) → Instance s n class → IsSubject s n
type_subject s n class h = (record { subject = n; predicate = rdf_type; object = h.0 }, h.1, refl)

-- a node that says that it is a shape has a triple
says_subject : (s : List Triple) (n : Term) → SaysShape s n → IsSubject s n
says_subject s n (inl h) = type_subject s n _ h
says_subject s n (inr (inl h)) = type_subject s n _ h
says_subject s n (inr (inr h)) = (record { subject = n; predicate = property_iri h.0; object = h.1 }, h.2, refl)

-- those that are taken, and those that say so
pub shapes_found : (s : List Triple) (subjects taken nodes : List Term) → ((n : Term) → Contains subjects n ↔ IsSubject s n) → ((n : Term) → Contains taken n ↔ Gives (TakenBy s) s n)
    → HasGathered (IsShapeAt s) subjects taken nodes → (n : Term) → Contains nodes n ↔ IsShape s n
shapes_found s subjects taken nodes are takes gathered n = (
  λ c. elim ((gathered n).0 c) [
    | inl t ↦ inr (inr (inr ((taken_by s n).0 ((takes n).0 t))))
    | inr g ↦ elim g.2.1 [
      | inl h ↦ inl h
      | inr (inl h) ↦ inr (inl h)
      | inr (inr h) ↦ inr (inr (inl h))
    ]
  ],
  λ h. (gathered n).1 (elim h [
    | inl i ↦ inr (n, (are n).1 (says_subject s n (inl i)), (refl, inl i))
    | inr (inl i) ↦ inr (n, (are n).1 (says_subject s n (inr (inl i))), (refl, inr (inl i)))
    | inr (inr (inl v)) ↦ inr (n, (are n).1 (says_subject s n (inr (inr v))), (refl, inr (inr v)))
    | inr (inr (inr t)) ↦ inl ((takes n).1 ((taken_by s n).1 t))
  ]),
)
