-- The targets of a compiled shape by its declarations, and the looks that decide them, are those of the shape by the triples
-- of its shapes graph.
use Rattle.std.proofs.Common.{◌≡◌, ℕ, List, map, refl, subst, inl, inr}
use Rattle.std.specs.Prelude.{◌↔◌}
use Rattle.std.specs.List.{Contains}
use Rattle.rdf_model.specs.declared.term.Term.{Term}
use Rattle.rdf_model.specs.declared.triple.Triple.{Triple}
use Rattle.rdf_model.specs.Numbers.{term_at}
use Rattle.shape_model.specs.Looks.{LookRow}
use Rattle.shape_model.specs.Readings.{Reading}
use Rattle.shape_model.specs.ShapeLooks.{TargetLook}
use Rattle.shape_model.specs.Targets.{TargetOf}
use Rattle.shape_model.specs.Vocabulary.{ShTargetNode, ShTargetClass, ShTargetSubjectsOf, ShTargetObjectsOf}
use Rattle.path_eval.proofs.Mirrors.{mapped_from, mapped_to}
use Rattle.shape_ast.specs.declared.shape.Shape.{Shape}
use Rattle.shape_ast.specs.declared.target.Target.{Target as Declaration}
use Rattle.shape_ast.specs.declared.target.Target.TheVariants.{Node, Class, ImplicitClass, SubjectsOf, ObjectsOf}
use Rattle.shape_ast.specs.Readings.{ReadShape, read_shape, read_target}
use Rattle.shape_ast.specs.Standing.{SameShape, shape_reading}
use Rattle.target_nodes.specs.Declarations.{declared_reading}

-- two readings declare the same targets
pub record DeclareSame (y z : Reading) : Type 0 where
  pub nodes : (v : Term) → y.has ShTargetNode v ↔ z.has ShTargetNode v
  pub classes : (v : Term) → y.has ShTargetClass v ↔ z.has ShTargetClass v
  pub implicit : y.is_class ↔ z.is_class
  pub subjects : (v : Term) → y.has ShTargetSubjectsOf v ↔ z.has ShTargetSubjectsOf v
  pub objects : (v : Term) → y.has ShTargetObjectsOf v ↔ z.has ShTargetObjectsOf v

pub same_back : (y z : Reading) → DeclareSame y z → DeclareSame z y
same_back y z e = record {
  nodes = λ v. ((e.nodes v).1, (e.nodes v).0);
  classes = λ v. ((e.classes v).1, (e.classes v).0);
  implicit = (e.implicit.1, e.implicit.0);
  subjects = λ v. ((e.subjects v).1, (e.subjects v).0);
  objects = λ v. ((e.objects v).1, (e.objects v).0);
}

-- what agrees as a validation asks, and then declares the same
pub same_then : (x y z : Reading) → SameShape x y → DeclareSame y z → DeclareSame x z
same_then x y z e d = record {
  nodes = λ v. (λ h. (d.nodes v).0 ((e.has ShTargetNode v tt).0 h), λ h. (e.has ShTargetNode v tt).1 ((d.nodes v).1 h));
  classes = λ v. (λ h. (d.classes v).0 ((e.has ShTargetClass v tt).0 h), λ h. (e.has ShTargetClass v tt).1 ((d.classes v).1 h));
  implicit = (λ h. d.implicit.0 (e.is_class.0 h), λ h. e.is_class.1 (d.implicit.1 h));
  subjects = λ v. (λ h. (d.subjects v).0 ((e.has ShTargetSubjectsOf v tt).0 h), λ h. (e.has ShTargetSubjectsOf v tt).1 ((d.subjects v).1 h));
  objects = λ v. (λ h. (d.objects v).0 ((e.has ShTargetObjectsOf v tt).0 h), λ h. (e.has ShTargetObjectsOf v tt).1 ((d.objects v).1 h));
}

module _ (y z : Reading) (e : DeclareSame y z) where
  pub target_same : (g : List Triple) (shape f : Term) → TargetOf g y shape f → TargetOf g z shape f
  target_same g shape f = elim [
    | inl i ↦ inl ((e.nodes f).0 i)
    | inr (inl i) ↦ inr (inl (i.0, (e.classes i.0).0 i.1, i.2))
    | inr (inr (inl i)) ↦ inr (inr (inl (e.implicit.0 i.0, i.1)))
    | inr (inr (inr (inl i))) ↦ inr (inr (inr (inl (i.0, (e.subjects i.0).0 i.1, i.2))))
    | inr (inr (inr (inr i))) ↦ inr (inr (inr (inr (i.0, (e.objects i.0).0 i.1, i.2))))
  ]

  pub look_same : (row : LookRow) → TargetLook y row → TargetLook z row
  look_same row = elim [
    | inl i ↦ inl (i.0, (e.classes i.0).0 i.1, i.2)
    | inr (inl i) ↦ inr (inl (e.implicit.0 i.0, i.1))
    | inr (inr (inl i)) ↦ inr (inr (inl (i.0, (e.subjects i.0).0 i.1, i.2)))
    | inr (inr (inr i)) ↦ inr (inr (inr (i.0, (e.objects i.0).0 i.1, i.2)))
  ]

module _ (terms : List Term) where
  -- which declaration it was
  from_node : (d : Declaration ℕ) (v : Term) → read_target (term_at terms) d ≡ Node v → (n : ℕ) × (d ≡ Node n) × (term_at terms n ≡ v)
  from_node (Node n) v e = (n, refl, cc)
  from_node (Class n) v e = absurd (cc)
  from_node ImplicitClass v e = absurd (cc)
  from_node (SubjectsOf n) v e = absurd (cc)
  from_node (ObjectsOf n) v e = absurd (cc)

  from_class : (d : Declaration ℕ) (v : Term) → read_target (term_at terms) d ≡ Class v → (n : ℕ) × (d ≡ Class n) × (term_at terms n ≡ v)
  from_class (Node n) v e = absurd (cc)
  from_class (Class n) v e = (n, refl, cc)
  from_class ImplicitClass v e = absurd (cc)
  from_class (SubjectsOf n) v e = absurd (cc)
  from_class (ObjectsOf n) v e = absurd (cc)

  from_implicit : (d : Declaration ℕ) → read_target (term_at terms) d ≡ ImplicitClass → d ≡ ImplicitClass
  from_implicit (Node n) e = absurd (cc)
  from_implicit (Class n) e = absurd (cc)
  from_implicit ImplicitClass e = refl
  from_implicit (SubjectsOf n) e = absurd (cc)
  from_implicit (ObjectsOf n) e = absurd (cc)

  from_subjects : (d : Declaration ℕ) (v : Term) → read_target (term_at terms) d ≡ SubjectsOf v → (n : ℕ) × (d ≡ SubjectsOf n) × (term_at terms n ≡ v)
  from_subjects (Node n) v e = absurd (cc)
  from_subjects (Class n) v e = absurd (cc)
  from_subjects ImplicitClass v e = absurd (cc)
  from_subjects (SubjectsOf n) v e = (n, refl, cc)
  from_subjects (ObjectsOf n) v e = absurd (cc)

  from_objects : (d : Declaration ℕ) (v : Term) → read_target (term_at terms) d ≡ ObjectsOf v → (n : ℕ) × (d ≡ ObjectsOf n) × (term_at terms n ≡ v)
  from_objects (Node n) v e = absurd (cc)
  from_objects (Class n) v e = absurd (cc)
  from_objects ImplicitClass v e = absurd (cc)
  from_objects (SubjectsOf n) v e = absurd (cc)
  from_objects (ObjectsOf n) v e = (n, refl, cc)

  module _ (ts : List (Declaration ℕ)) where
    -- one that is read as this stands in the list
    was : (t : Declaration Term) → Contains (map (read_target (term_at terms)) ts) t → (d : Declaration ℕ) × Contains ts d × (read_target (term_at terms) d ≡ t)
    was t c = mapped_from (read_target (term_at terms)) ts t c

    is : (d : Declaration ℕ) → Contains ts d → Contains (map (read_target (term_at terms)) ts) (read_target (term_at terms) d)
    is d c = mapped_to (read_target (term_at terms)) ts d c

    -- one that gives a term
    gives : (Make : ℕ → Declaration ℕ) (v : Term) (t : Declaration Term) → ((d : Declaration ℕ) → read_target (term_at terms) d ≡ t → (n : ℕ) × (d ≡ Make n) × (term_at terms n ≡ v)) → Contains (map (read_target (term_at terms)) ts) t
        → (n : ℕ) × Contains ts (Make n) × (term_at terms n ≡ v)
    gives Make v t from c =
        let k = was t c in
        let h = from k.0 k.2 in
        (h.0, subst (λ (d : Declaration ℕ). Contains ts d) h.1 k.1, h.2)

  -- what a compiled shape says of its targets is what its declarations say
  pub declares : (named : List ReadShape) (sh : Shape ℕ) → DeclareSame (shape_reading named (read_shape (term_at terms) sh)) (declared_reading terms sh.targets)
  declares named sh =
      let ts = sh.targets in
      let Stands : Declaration Term → Type 0 = λ t. Contains (map (read_target (term_at terms)) ts) t in
      record {
        nodes = λ v. (λ c. gives ts (λ n. Node n) v (Node v) (λ d. from_node d v) c, λ i. subst (λ (t : Term). Stands (Node t)) i.2 (is ts (Node i.0) i.1));
        classes = λ v. (λ c. gives ts (λ n. Class n) v (Class v) (λ d. from_class d v) c, λ i. subst (λ (t : Term). Stands (Class t)) i.2 (is ts (Class i.0) i.1));
        implicit = (λ i. let k = was ts ImplicitClass i in subst (λ (d : Declaration ℕ). Contains ts d) (from_implicit k.0 k.2) k.1, λ i. is ts ImplicitClass i);
        subjects = λ v. (λ c. gives ts (λ n. SubjectsOf n) v (SubjectsOf v) (λ d. from_subjects d v) c, λ i. subst (λ (t : Term). Stands (SubjectsOf t)) i.2 (is ts (SubjectsOf i.0) i.1));
        objects = λ v. (λ c. gives ts (λ n. ObjectsOf n) v (ObjectsOf v) (λ d. from_objects d v) c, λ i. subst (λ (t : Term). Stands (ObjectsOf t)) i.2 (is ts (ObjectsOf i.0) i.1));
      }
