-- What the first triple with a value says of the values.
use Rattle.std.proofs.Common.{◌≡◌, ◌∙◌, List, sym, subst}
use Rattle.std.specs.List.{Contains}
use Rattle.rdf_model.specs.declared.term.Term.{Term}
use Rattle.rdf_model.specs.declared.triple.Triple.{Triple}
use Rattle.shape_model.specs.Triples.{Has, HasOnly}
use Rattle.shape_syntax.specs.Scans.{HasAnotherValue, IsAnotherValue, IsValueTriple}
use Rattle.shape_syntax.proofs.Equals.{same_unless}

pub has_at : (g : List Triple) (a b p q y : Term) → a ≡ b → p ≡ q → Has g a p y → Has g b q y
has_at g a b p q y e f h = subst (λ (x : Term). Has g b x y) f (subst (λ (x : Term). Has g x p y) e h)

pub value_of : (g : List Triple) (n p : Term) (t : Triple) → IsValueTriple g n p t → Has g n p t.object
value_of g n p t h = has_at g t.subject n t.predicate p t.object h.1 h.2 h.0

pub only_from : (g : List Triple) (n p : Term) (t : Triple) → IsValueTriple g n p t → (HasAnotherValue g t → ⊥) → HasOnly g n p t.object
only_from g n p t h alone = (
  value_of g n p t h,
  λ z k. sym (same_unless t.object z (λ apart. alone (z, has_at g n t.subject p t.predicate z (sym h.1) (sym h.2) k, apart))),
)

pub not_only : (g : List Triple) (n p : Term) (t : Triple) → IsValueTriple g n p t → HasAnotherValue g t → (v : Term) → HasOnly g n p v → ⊥
not_only g n p t h other v only =
    let first : t.object ≡ v = only.1 t.object (value_of g n p t h) in
    let second : other.0 ≡ v = only.1 other.0 (has_at g t.subject n t.predicate p other.0 h.1 h.2 other.1) in
    other.2 (first ∙ sym second)

pub another_from : (g : List Triple) (t other : Triple) → Contains g other → IsAnotherValue t other → HasAnotherValue g t
another_from g t other c h = (other.object, has_at g other.subject t.subject other.predicate t.predicate other.object h.0 h.1 c, h.2)
