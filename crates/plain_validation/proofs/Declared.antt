-- The targets that triples declare.
use Rattle.std.proofs.Common.{◌≡◌, ◌∙◌, ℕ, List, [], ◌∷◌, length, sym, subst, ap, arith, inl, inr}
use Rattle.rdf_model.specs.declared.term.Term.{Term}
use Rattle.rdf_model.specs.declared.term.Term.TheVariants.{Blank, Iri, Literal}
use Rattle.rdf_model.specs.declared.triple.Triple.{Triple}
use Rattle.shape_model.specs.Instances.{Instance}
use Rattle.shape_model.specs.Triples.{Has}
use Rattle.shape_model.specs.Validation.{At}
use Rattle.shape_model.specs.Vocabulary.{sh, ShTargetClass, ShTargetNode, ShTargetObjectsOf, ShTargetSubjectsOf, ShapeProperty, property_iri}
use Rattle.shape_model.specs.declared.result_row.ResultRow.{ResultRow}
use Rattle.plain_terms.specs.Finds.{Finds, HasSome, WithSome}
use Rattle.plain_terms.proofs.FoundItems.{finds_at, finds_none, finds_one, finds_same, some_same}
use Rattle.plain_validation.specs.Targets.{DeclaredRow, Declares, IsValue}

-- the four declarations of targets differ
abbrev size : Term → ℕ
size (Blank session number) = 0
size (Iri iri) = length iri
size (Literal lexical datatype language) = 0

node_class : property_iri ShTargetNode ≡ property_iri ShTargetClass → ⊥
unfolding sh
node_class e = let k : size (property_iri ShTargetNode) ≡ size (property_iri ShTargetClass) = ap size e in absurd (omega (arith, k))

node_subjects : property_iri ShTargetNode ≡ property_iri ShTargetSubjectsOf → ⊥
unfolding sh
node_subjects e = let k : size (property_iri ShTargetNode) ≡ size (property_iri ShTargetSubjectsOf) = ap size e in absurd (omega (arith, k))

node_objects : property_iri ShTargetNode ≡ property_iri ShTargetObjectsOf → ⊥
unfolding sh
node_objects e = let k : size (property_iri ShTargetNode) ≡ size (property_iri ShTargetObjectsOf) = ap size e in absurd (omega (arith, k))

class_subjects : property_iri ShTargetClass ≡ property_iri ShTargetSubjectsOf → ⊥
unfolding sh
class_subjects e = let k : size (property_iri ShTargetClass) ≡ size (property_iri ShTargetSubjectsOf) = ap size e in absurd (omega (arith, k))

class_objects : property_iri ShTargetClass ≡ property_iri ShTargetObjectsOf → ⊥
unfolding sh
class_objects e = let k : size (property_iri ShTargetClass) ≡ size (property_iri ShTargetObjectsOf) = ap size e in absurd (omega (arith, k))

subjects_objects : property_iri ShTargetSubjectsOf ≡ property_iri ShTargetObjectsOf → ⊥
unfolding sh
subjects_objects e = let k : size (property_iri ShTargetSubjectsOf) ≡ size (property_iri ShTargetObjectsOf) = ap size e in absurd (omega (arith, k))

module _ (g : List Triple) (t : Triple) where
  abbrev Isnt : ShapeProperty → Type 0
  Isnt p = t.predicate ≡ property_iri p → ⊥

  pub node_declared : t.predicate ≡ property_iri ShTargetNode → (targets : List Term) → targets ≡ t.object ∷ [] → Finds (Declares g t) targets
  node_declared e targets is = subst (λ (xs : List Term). Finds (Declares g t) xs) (sym is) (finds_one (Declares g t) t.object (λ f. (
    elim [
      | inl d ↦ d.1
      | inr (inl d) ↦ absurd (node_class (sym e ∙ d.0))
      | inr (inr (inl d)) ↦ absurd (node_subjects (sym e ∙ d.0))
      | inr (inr (inr d)) ↦ absurd (node_objects (sym e ∙ d.0))
    ],
    λ o. inl (e, o),
  )))

  pub class_declared : Isnt ShTargetNode → t.predicate ≡ property_iri ShTargetClass → (targets : List Term) → Finds (λ f. Instance g f t.object) targets → Finds (Declares g t) targets
  class_declared not_node e targets h = finds_same (λ f. Instance g f t.object) (Declares g t) targets (λ f. (
    λ k. inr (inl (e, k)),
    elim [
      | inl d ↦ absurd (not_node d.0)
      | inr (inl d) ↦ d.1
      | inr (inr (inl d)) ↦ absurd (class_subjects (sym e ∙ d.0))
      | inr (inr (inr d)) ↦ absurd (class_objects (sym e ∙ d.0))
    ],
  )) h

  pub subjects_declared : Isnt ShTargetNode → Isnt ShTargetClass → t.predicate ≡ property_iri ShTargetSubjectsOf → (targets : List Term) → Finds (HasSome g t.object) targets → Finds (Declares g t) targets
  subjects_declared not_node not_class e targets h = finds_same (HasSome g t.object) (Declares g t) targets (λ f. (
    λ k. inr (inr (inl (e, k))),
    elim [
      | inl d ↦ absurd (not_node d.0)
      | inr (inl d) ↦ absurd (not_class d.0)
      | inr (inr (inl d)) ↦ d.1
      | inr (inr (inr d)) ↦ absurd (subjects_objects (sym e ∙ d.0))
    ],
  )) h

  pub objects_declared : Isnt ShTargetNode → Isnt ShTargetClass → Isnt ShTargetSubjectsOf → t.predicate ≡ property_iri ShTargetObjectsOf → (targets : List Term) → Finds (IsValue g t.object) targets → Finds (Declares g t) targets
  objects_declared not_node not_class not_subjects e targets h = finds_same (IsValue g t.object) (Declares g t) targets (λ f. (
    λ k. inr (inr (inr (e, k))),
    elim [ inl d ↦ absurd (not_node d.0) | inr (inl d) ↦ absurd (not_class d.0) | inr (inr (inl d)) ↦ absurd (not_subjects d.0) | inr (inr (inr d)) ↦ d.1 ],
  )) h

  pub none_declared : Isnt ShTargetNode → Isnt ShTargetClass → Isnt ShTargetSubjectsOf → Isnt ShTargetObjectsOf → (targets : List Term) → targets ≡ [] → Finds (Declares g t) targets
  none_declared not_node not_class not_subjects not_objects targets is = subst (λ (xs : List Term). Finds (Declares g t) xs) (sym is)
      (finds_none (Declares g t) (λ f. elim [ inl d ↦ not_node d.0 | inr (inl d) ↦ not_class d.0 | inr (inr (inl d)) ↦ not_subjects d.0 | inr (inr (inr d)) ↦ not_objects d.0 ]))

  pub declared_found : (s : List Triple) (targets slice : List Term) (rows : List ResultRow) → Finds (Declares g t) targets → slice ≡ targets → Finds (WithSome slice (At g s t.subject)) rows → Finds (DeclaredRow g s t) rows
  declared_found s targets slice rows h e k = finds_same (WithSome slice (At g s t.subject)) (DeclaredRow g s t) rows (some_same (Declares g t) slice (At g s t.subject) (finds_at (Declares g t) targets slice e h)) k

-- the values of a predicate
pub values_found : (g : List Triple) (p : Term) (nodes slice found result : List Term) → Finds (HasSome g p) nodes → slice ≡ nodes → Finds (WithSome slice (λ (node object : Term). Has g node p object)) found → result ≡ found → Finds (IsValue g p) result
values_found g p nodes slice found result h e k e_result =
    let all = finds_at (HasSome g p) nodes slice e h in
    finds_at (IsValue g p) found result e_result (finds_same (WithSome slice (λ (node object : Term). Has g node p object)) (IsValue g p) found (λ o. (
      λ w. (w.0, w.2),
      λ w. (w.0, (all.members w.0).1 (o, w.1), w.1),
    )) k)
