-- The one constraint of a kind by a value.
use Rattle.std.proofs.Common.{◌≡◌, ◌∙◌, ℕ, List, Option, Some, None, refl, sym, ap, subst}
use Rattle.std.specs.Prelude.{◌↔◌}
use Rattle.rdf_model.specs.declared.term.Term.{Term}
use Rattle.rdf_model.specs.declared.triple.Triple.{Triple}
use Rattle.shape_model.specs.ShapeSyntax.{ListOf}
use Rattle.shape_syntax.proofs.Lists.{one_list}
use Rattle.shape_ast.specs.declared.component.TermComponent.{TermComponent}
use Rattle.shape_ast.specs.declared.component.ListComponent.{ListComponent}
use Rattle.shape_ast.specs.declared.component.ShapeComponent.{ShapeComponent}
use Rattle.shape_ast.specs.declared.component.ShapesComponent.{ShapesComponent}
use Rattle.shape_ast.specs.declared.constraint.Constraint.{Constraint}
use Rattle.shape_ast.specs.declared.constraint.Constraint.TheVariants.{ByTerm, ByList, ByShape, ByShapes}
use Rattle.shape_reader.specs.declared.kind.Kind.TheVariants as kinds
use Rattle.shape_reader.specs.Parts.{ArePlaces, AreShapesOf, IsConstraint, IsPlace}
use Rattle.shape_reader.proofs.Options.{never_some, only_some}

module _ (s : List Triple) (nodes : List Term) (v w : Term) (is : w ≡ v) where
  pub term_some : (a : TermComponent) (x : Constraint Term) → (Some (ByTerm a w) ≡ Some x) ↔ IsConstraint s nodes (kinds.Term a) v x
  term_some a = only_some (λ x. x ≡ ByTerm a v) (ByTerm a w) (ap (ByTerm a) is) (λ x h. ap (ByTerm a) is ∙ sym h)

  pub list_some : (a : ListComponent) (ms : List Term) → ListOf s v ms → (x : Constraint Term) → (Some (ByList a w ms) ≡ Some x) ↔ IsConstraint s nodes (kinds.List a) v x
  list_some a ms l = only_some (λ x. IsConstraint s nodes (kinds.List a) v x) (ByList a w ms) (ms, l, ap (λ (t : Term). ByList a t ms) is)
      (λ x h. ap (λ (t : Term). ByList a t ms) is ∙ ap (ByList a v) (one_list s v ms h.0 l h.1) ∙ sym h.2)

  pub shape_some : (a : ShapeComponent) (k : ℕ) → ((n : ℕ) → (Some k ≡ Some n) ↔ IsPlace nodes n v) → (x : Constraint Term) → (Some (ByShape a w k) ≡ Some x) ↔ IsConstraint s nodes (kinds.Shape a) v x
  shape_some a k at = only_some (λ x. IsConstraint s nodes (kinds.Shape a) v x) (ByShape a w k) (k, (at k).0 refl, ap (λ (t : Term). ByShape a t k) is)
      (λ x h. let e = (at h.0).1 h.1 in let f : k ≡ h.0 = cc in ap (λ (t : Term). ByShape a t k) is ∙ ap (ByShape a v) f ∙ sym h.2)

  pub shapes_some : (a : ShapesComponent) (ps : List ℕ) → ((qs : List ℕ) → (Some ps ≡ Some qs) ↔ AreShapesOf s nodes v qs) → (x : Constraint Term) → (Some (ByShapes a w ps) ≡ Some x) ↔ IsConstraint s nodes (kinds.Shapes a) v x
  shapes_some a ps at = only_some (λ x. IsConstraint s nodes (kinds.Shapes a) v x) (ByShapes a w ps) (ps, (at ps).0 refl, ap (λ (t : Term). ByShapes a t ps) is)
      (λ x h. let e = (at h.0).1 h.1 in let f : ps ≡ h.0 = cc in ap (λ (t : Term). ByShapes a t ps) is ∙ ap (ByShapes a v) f ∙ sym h.2)

module _ (s : List Triple) (nodes : List Term) (v : Term) where
  pub list_none : (a : ListComponent) → ((ms : List Term) → ListOf s v ms → ⊥) → (x : Constraint Term) → (None ≡ Some x) ↔ IsConstraint s nodes (kinds.List a) v x
  list_none a none = never_some (λ x. IsConstraint s nodes (kinds.List a) v x) (λ x h. none h.0 h.1)

  pub shape_none : (a : ShapeComponent) → ((n : ℕ) → (None ≡ Some n) ↔ IsPlace nodes n v) → (x : Constraint Term) → (None ≡ Some x) ↔ IsConstraint s nodes (kinds.Shape a) v x
  shape_none a none = never_some (λ x. IsConstraint s nodes (kinds.Shape a) v x) (λ x h. let e = (none h.0).1 h.1 in cc)

  pub shapes_none : (a : ShapesComponent) → ((qs : List ℕ) → (None ≡ Some qs) ↔ AreShapesOf s nodes v qs) → (x : Constraint Term) → (None ≡ Some x) ↔ IsConstraint s nodes (kinds.Shapes a) v x
  shapes_none a none = never_some (λ x. IsConstraint s nodes (kinds.Shapes a) v x) (λ x h. let e = (none h.0).1 h.1 in cc)

  pub shapes_told : (ms : List Term) → ListOf s v ms → (found : Option (List ℕ)) → ((ps : List ℕ) → (found ≡ Some ps) ↔ ArePlaces nodes ps ms) → (ps : List ℕ) → (found ≡ Some ps) ↔ AreShapesOf s nodes v ps
  shapes_told ms l found at ps = (
    λ e. (ms, l, (at ps).0 e),
    λ h. (at ps).1 (subst (λ (us : List Term). ArePlaces nodes ps us) (one_list s v h.0 ms h.1 l) h.2),
  )
