-- What the triples with a value of a property show.
use Rattle.std.proofs.Common.{◌≡◌, ◌∙◌, ℕ, zero, suc, List, [], ◌∷◌, length, Option, Some, None, refl, sym, ap, subst, arith}
use Rattle.std.specs.Prelude.{◌↔◌, MatchOption}
use Rattle.std.specs.List.{Contains}
use Rattle.collections.specs.Listings.{IsListing}
use Rattle.rdf_model.specs.declared.term.Term.{Term}
use Rattle.rdf_model.specs.declared.triple.Triple.{Triple}
use Rattle.rdf_model.specs.Terms.{triple_cmp}
use Rattle.shape_model.specs.Vocabulary.{ShapeProperty, ShProperty, property_iri}
use Rattle.shape_model.specs.ShapeSyntax.{HasProperty}
use Rattle.shape_model.specs.Readings.{Sibling}
use Rattle.shape_syntax.proofs.Values.{value_of}
use Rattle.shape_syntax.specs.Gathering.{Gives}
use Rattle.shape_references.specs.Siblings.{AreValues, IsBeside, IsReversed, IsReverseOf, IsUnder, MayHaveSiblings}

pub value_in : (s own : List Triple) (n : Term) (p : ShapeProperty) → AreValues s n p own → (t : Triple) → Contains own t → HasProperty s n p t.object
value_in s own n p all t c = let k = (all t).0 c in value_of s n (property_iri p) t (k.0, k.1.0, k.1.1)

pub in_values : (s own : List Triple) (n : Term) (p : ShapeProperty) → AreValues s n p own → (v : Term) → HasProperty s n p v → Contains own (record { subject = n; predicate = property_iri p; object = v })
in_values s own n p all v h = (all (record { subject = n; predicate = property_iri p; object = v })).1 (h, (refl, refl))

-- what values of the property give
pub values_give : (s own : List Triple) (n : Term) (p : ShapeProperty) (B : Term → Term → Type 0) → AreValues s n p own
    → (y : Term) → Gives (λ (t : Triple) (z : Term). B t.object z) own y ↔ ((v : Term) × HasProperty s n p v × B v y)
values_give s own n p B all y = (
  λ g. (g.0.object, value_in s own n p all g.0 g.1, g.2),
  λ h. (record { subject = n; predicate = property_iri p; object = h.0 }, in_values s own n p all h.0 h.1, h.2),
)

-- one of the triples has this object
pub one_value : (s own : List Triple) (n : Term) (p : ShapeProperty) (v : Term) → AreValues s n p own → ((t : Triple) × Contains own t × (t.object ≡ v)) ↔ HasProperty s n p v
one_value s own n p v all = (
  λ h. subst (λ (w : Term). HasProperty s n p w) h.2 (value_in s own n p all h.0 h.1),
  λ h. (record { subject = n; predicate = property_iri p; object = v }, in_values s own n p all v h, refl),
)

-- the shapes that have it as a sh:property, by the reversed triples
pub reversed_value : (s reversed : List Triple) → IsListing triple_cmp (IsReversed s) reversed → (shape parent : Term) → HasProperty reversed shape ShProperty parent ↔ HasProperty s parent ShProperty shape
reversed_value s reversed list shape parent =
    let k = list.members (record { subject = shape; predicate = property_iri ShProperty; object = parent }) in
    (λ h. (k.0 h).1, λ h. k.1 (refl, h))

pub beside_by : (s reversed : List Triple) (shape : Term) → IsListing triple_cmp (IsReversed s) reversed → (t : Term) → ((parent : Term) × HasProperty reversed shape ShProperty parent × IsUnder s shape parent t) ↔ IsBeside s shape t
beside_by s reversed shape list t = (
  λ h. (h.0, (reversed_value s reversed list shape h.0).0 h.1, h.2),
  λ h. (h.0, (reversed_value s reversed list shape h.0).1 h.1, h.2),
)

pub sibling_by : (s : List Triple) (shape t : Term) → (MayHaveSiblings s shape × IsBeside s shape t) ↔ Sibling s shape t
sibling_by s shape t = (
  λ h. let b = h.1 in let u = b.2 in (h.0.0, h.0.1, u.2.1, (b.0, u.0, b.1, u.1, u.2.0)),
  λ h. let q = h.3 in ((h.0, h.1), (q.0, q.2, (q.1, q.3, (q.4, h.2)))),
)

pub reversed_by : (s : List Triple) (t : Triple) → Gives IsReverseOf s t ↔ IsReversed s t
reversed_by s t = (
  λ g. let u = g.0 in subst (λ (x : Triple). IsReversed s x) (sym g.2.1) (g.2.0, g.1),
  λ h. (record { subject = t.object; predicate = t.predicate; object = t.subject }, h.1, (h.0, refl)),
)

-- the only one of the reversed triples leads to the only parent
pub only_one : (s reversed own : List Triple) (shape : Term) (t : Triple) → IsListing triple_cmp (IsReversed s) reversed → AreValues reversed shape ShProperty own → length own ≡ 1 → Contains own t
    → HasProperty s t.object ShProperty shape × ((q : Term) → HasProperty s q ShProperty shape → q ≡ t.object)
only_one s reversed own shape t list all one here = (
  (reversed_value s reversed list shape t.object).0 (value_in reversed own shape ShProperty all t here),
  λ q h. ap (λ (x : Triple). x.object) (alone own _ t one (in_values reversed own shape ShProperty all q ((reversed_value s reversed list shape q).1 h)) here),
)
  where
    alone : (xs : List Triple) (x y : Triple) → length xs ≡ 1 → Contains xs x → Contains xs y → x ≡ y
    alone [] x y e c d = absurd (omega arith)
    alone (z ∷ []) x y e c d = sym (first z x c) ∙ first z y d
      where
        first : (z x : Triple) → Contains (z ∷ []) x → z ≡ x
        first z x (zero, l, f) = f
        first z x (suc i, l, f) = absurd (omega arith)
    alone (z ∷ w ∷ zs) x y e c d = absurd (omega arith)

pub both_some : {X : Type 0} → (P : Type 0) (Q : X → Type 0) (o : Option X) → P → MatchOption o (Unit {0}) Q → MatchOption o (Unit {0}) (λ x. P × Q x)
both_some P Q None p h = tt
both_some P Q (Some x) p h = (p, h)
