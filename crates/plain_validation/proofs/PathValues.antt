-- The value nodes of a shape by the list of its paths.
use Rattle.std.proofs.Common.{◌≡◌, ◌<◌, List, [], ◌∷◌, length, get_or, refl, subst, ap, arith, inl, inr}
use Rattle.std.proofs.lemmas.List.Elements.{Contains-get_or}
use Rattle.rdf_model.specs.declared.term.Term.{Term}
use Rattle.rdf_model.specs.declared.triple.Triple.{Triple}
use Rattle.shape_model.specs.Readings.{IsNodeShape, ValueNode, reading}
use Rattle.shape_model.specs.ShapeSyntax.{HasProperty}
use Rattle.shape_model.specs.Vocabulary.{ShPath}
use Rattle.plain_terms.specs.Ways.{LeadsTo}
use Rattle.plain_terms.specs.Finds.{Finds, WithSome}
use Rattle.plain_terms.proofs.FoundItems.{finds_at, finds_one, finds_same}

is_some : (xs : List Term) → (xs ≡ [] → ⊥) → 0 < length xs
is_some [] some = absurd (some refl)
is_some (x ∷ xs) some = omega arith

module _ (g s : List Triple) (shape f : Term) (paths : List Term) (found : Finds (HasProperty s shape ShPath) paths) where
  node_shape : length paths ≡ 0 → IsNodeShape s shape
  node_shape e p h = let c = (found.members p).1 h in absurd (omega arith)

  property_shape : 0 < length paths → IsNodeShape s shape → ⊥
  property_shape l none = none (get_or paths 0 f) ((found.members (get_or paths 0 f)).0 (Contains-get_or paths 0 f l))

  pub without_path : paths ≡ [] → (values : List Term) → values ≡ f ∷ [] → Finds (ValueNode g (reading s shape) f) values
  without_path e values is = finds_at (ValueNode g (reading s shape) f) (f ∷ []) values is (finds_one (ValueNode g (reading s shape) f) f (λ v. (
    elim [ inl i ↦ i.1 | inr i ↦ absurd (node_shape (ap (λ (xs : List Term). length xs) e) i.1.0 i.1.1) ],
    λ e_v. inl (node_shape (ap (λ (xs : List Term). length xs) e), e_v),
  )))

  pub along_paths : (paths ≡ [] → ⊥) → (values : List Term) → Finds (WithSome paths (λ n. LeadsTo g s n f)) values → Finds (ValueNode g (reading s shape) f) values
  along_paths e values h = finds_same (WithSome paths (λ n. LeadsTo g s n f)) (ValueNode g (reading s shape) f) values (λ v. (
    λ w. inr (w.2.0, (w.0, (found.members w.0).0 w.1, w.2.1), w.2.2),
    elim [ inl i ↦ absurd (property_shape (is_some paths e) i.0) | inr i ↦ (i.1.0, (found.members i.1.0).1 i.1.1, (i.0, i.1.2, i.2)) ],
  )) h

-- where the slice of the paths is their list
pub along_slice : (g s : List Triple) (shape f : Term) (paths slice : List Term) → Finds (HasProperty s shape ShPath) paths → (paths ≡ [] → ⊥) → slice ≡ paths → (found values : List Term) → values ≡ found → Finds (WithSome slice (λ n. LeadsTo g s n f)) found
    → Finds (ValueNode g (reading s shape) f) values
along_slice g s shape f paths slice h some e found values is k =
    along_paths g s shape f paths h some values (finds_at (WithSome paths (λ n. LeadsTo g s n f)) found values is (subst (λ (xs : List Term). Finds (WithSome xs (λ n. LeadsTo g s n f)) found) e k))
