-- The results at declared targets and those of classes are all results.
use Rattle.std.proofs.Common.{◌≡◌, List, ◌++◌, refl, subst, inl, inr}
use Rattle.std.specs.Prelude.{◌↔◌, ◌⊎◌}
use Rattle.std.specs.List.{Contains}
use Rattle.rdf_model.specs.declared.term.Term.{Term}
use Rattle.rdf_model.specs.declared.triple.Triple.{Triple}
use Rattle.shape_model.specs.Instances.{Instance}
use Rattle.shape_model.specs.ShapeSyntax.{HasProperty}
use Rattle.shape_model.specs.Targets.{Target}
use Rattle.shape_model.specs.Validation.{At, IsResult}
use Rattle.shape_model.specs.Vocabulary.{rdfs_class, ShTargetClass, ShTargetNode, ShTargetObjectsOf, ShTargetSubjectsOf, ShapeProperty, property_iri}
use Rattle.shape_model.specs.declared.result_row.ResultRow.{ResultRow}
use Rattle.plain_terms.specs.Finds.{Finds, WithSome}
use Rattle.plain_terms.proofs.FoundItems.{finds_at, finds_both, finds_same, some_same}
use Rattle.plain_validation.specs.Targets.{ClassRow, DeclaredResult, Declares, ImplicitResult}
use Rattle.plain_validation.proofs.ClassShapes.{gives_result}

module _ (g s : List Triple) where
  abbrev Found : ResultRow → Type 0
  Found r = DeclaredResult g s r ⊎ ImplicitResult g s r

  from_target : (n f : Term) (r : ResultRow) → Target g s n f → At g s n f r → Found r
  from_target n f r = elim [
    | inl i ↦ λ a. inl (record { subject = n; predicate = property_iri ShTargetNode; object = f }, i, (f, inl (refl, refl), a))
    | inr (inl i) ↦ λ a. inl (record { subject = n; predicate = property_iri ShTargetClass; object = i.0 }, i.1, (f, inr (inl (refl, i.2)), a))
    | inr (inr (inl i)) ↦ λ a. inr (n, i.0.1, (f, i.1, a))
    | inr (inr (inr (inl i))) ↦ λ a. inl (record { subject = n; predicate = property_iri ShTargetSubjectsOf; object = i.0 }, i.1, (f, inr (inr (inl (refl, i.2))), a))
    | inr (inr (inr (inr i))) ↦ λ a. inl (record { subject = n; predicate = property_iri ShTargetObjectsOf; object = i.0 }, i.1, (f, inr (inr (inr (refl, i.2))), a))
  ]

  with_predicate : (t : Triple) (p : ShapeProperty) → Contains s t → t.predicate ≡ property_iri p → HasProperty s t.subject p t.object
  with_predicate t p c e = subst (λ (u : Triple). Contains s u) (λ i. record { subject = t.subject; predicate = e i; object = t.object }) c

  declared_target : (t : Triple) (f : Term) → Contains s t → Declares g t f → Target g s t.subject f
  declared_target t f c = elim [
    | inl d ↦ inl (subst (λ (x : Term). HasProperty s t.subject ShTargetNode x) d.1 (with_predicate t ShTargetNode c d.0))
    | inr (inl d) ↦ inr (inl (t.object, with_predicate t ShTargetClass c d.0, d.1))
    | inr (inr (inl d)) ↦ inr (inr (inr (inl (t.object, with_predicate t ShTargetSubjectsOf c d.0, d.1))))
    | inr (inr (inr d)) ↦ inr (inr (inr (inr (t.object, with_predicate t ShTargetObjectsOf c d.0, d.1))))
  ]

  found_same : (r : ResultRow) → Found r ↔ IsResult g s r
  found_same r = (
    elim [
      | inl i ↦ (i.0.subject, i.2.0, declared_target i.0 i.2.0 i.1 i.2.1, i.2.2)
      | inr i ↦ (i.0, i.2.0, inr (inr (inl ((gives_result g s i.0 i.2.0 r i.2.2, i.1), i.2.1))), i.2.2)
    ],
    λ i. from_target i.0 i.1 r i.2 i.3,
  )

  pub results_found : (declared implicit new : List ResultRow) → new ≡ declared ++ implicit → Finds (DeclaredResult g s) declared → Finds (ImplicitResult g s) implicit → Finds (IsResult g s) new
  results_found declared implicit new e h k = finds_at (IsResult g s) (declared ++ implicit) new e (finds_same Found (IsResult g s) (declared ++ implicit) found_same (finds_both (DeclaredResult g s) (ImplicitResult g s) declared implicit h k))

  pub class_found : (class : Term) (targets slice : List Term) (rows : List ResultRow) → Finds (λ f. Instance g f class) targets → slice ≡ targets → Finds (WithSome slice (At g s class)) rows → Finds (ClassRow g s class) rows
  class_found class targets slice rows h e k =
      finds_same (WithSome slice (At g s class)) (ClassRow g s class) rows (some_same (λ f. Instance g f class) slice (At g s class) (finds_at (λ f. Instance g f class) targets slice e h)) k

  pub implicit_found : (kind : Term) (classes slice : List Term) (rows : List ResultRow) → kind ≡ rdfs_class → Finds (λ c. Instance s c kind) classes → slice ≡ classes → Finds (WithSome slice (ClassRow g s)) rows → Finds (ImplicitResult g s) rows
  implicit_found kind classes slice rows e_kind h e k =
      let all = subst (λ (c : Term). Finds (λ n. Instance s n c) slice) e_kind (finds_at (λ c. Instance s c kind) classes slice e h) in
      finds_same (WithSome slice (ClassRow g s)) (ImplicitResult g s) rows (some_same (λ c. Instance s c rdfs_class) slice (ClassRow g s) all) k
