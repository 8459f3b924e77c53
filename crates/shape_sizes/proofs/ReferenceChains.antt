-- Chains of references by the bundles that have them.
use Rattle.std.proofs.Common.{◌≡◌, ℕ, zero, suc, List, [], ◌∷◌, ◌++◌, Option, Some, None, refl, sym, subst, inl, inr, arith}
use Rattle.std.specs.Prelude.{◌↔◌, ◌⊎◌, MatchOption}
use Rattle.std.specs.List.{Contains}
use Rattle.std.proofs.lemmas.List.Elements.{Contains-push, Contains-push_cases}
use Rattle.std.specs.Cmp.{tied_itself}
use Rattle.std.specs.declared.cmp.Ordering.{Ordering}
use Rattle.std.specs.declared.cmp.Ordering.TheVariants.{Less, Equal, Greater}
use Rattle.collections.proofs.Members.{has_cases, has_equal, has_tail}
use Rattle.rdf_model.specs.declared.term.Term.{Term}
use Rattle.rdf_model.specs.declared.triple.Triple.{Triple}
use Rattle.rdf_model.specs.Terms.{triple_cmp}
use Rattle.rdf_model.specs.Orders.{triple_exact, triple_total}
use Rattle.shape_syntax.proofs.Values.{value_of}
use Rattle.shape_references.specs.declared.bundle.Bundle.{Bundle}
use Rattle.shape_references.specs.Bundles.{HasBound, IsBound, IsLeastNode}
use Rattle.shape_references.specs.Chains.{Chain, HasChain, IsOnLoop}
use Rattle.shape_references.specs.Siblings.{AreUnder, IsParent}
use Rattle.shape_references.proofs.BoundSteps.{bound_nothing}
use Rattle.shape_properties.specs.declared.property.ShapeProperty.TheVariants as properties
use Rattle.shape_properties.specs.Properties.{property_iri}
use Rattle.shape_model.specs.Limits.{levels_limit}
use Rattle.shape_sizes.specs.References.{AreReferences, HasLongChain, IsLeastRecursive, IsLeastWithLongChain, IsRecursive, NamesShape}
use Rattle.shape_sizes.specs.Referring.{IsReferredBy}

-- ---- references

differs : (y t : Triple) → y ≡ t → triple_cmp y t ≡ Equal
differs y t e = subst (λ (x : Triple). triple_cmp y x ≡ Equal) e (tied_itself triple_total y)

has_or_not : (xs : List Triple) (t : Triple) → Contains xs t ⊎ (Contains xs t → ⊥)
has_or_not [] t = inr (λ c. absurd (omega arith))
has_or_not (y ∷ ys) t = elim (has_or_not ys t) [
  | inl c ↦ inl (has_tail y ys t c)
  | inr none ↦ elim (triple_cmp y t) as (λ (o : Ordering). triple_cmp y t ≡ o → Contains (y ∷ ys) t ⊎ (Contains (y ∷ ys) t → ⊥)) [
    | Less ↦ λ e. inr (λ c. elim (has_cases y ys t c) [ inl same ↦ (let k = differs y t same in cc) | inr d ↦ none d ])
    | Equal ↦ λ e. inl (has_equal y ys t (triple_exact y t e))
    | Greater ↦ λ e. inr (λ c. elim (has_cases y ys t c) [ inl same ↦ (let k = differs y t same in cc) | inr d ↦ none d ])
  ] refl
]

by_triple : (s : List Triple) (t : Triple) (a b : Term) → Contains s t → IsReferredBy s t a b → NamesShape s a b
by_triple s t a b c h = subst (λ (n : Term). NamesShape s n b) h.0 (let k = h.1 in inl (k.0, t.object, value_of s t.subject (property_iri k.0) t (c, refl, k.1), k.2))

-- a qualified value shape under the parent is a sibling of the shape, or its own
by_parent : (s : List Triple) (parent a b : Term) → AreUnder s parent a b → NamesShape s a b
by_parent s parent a b h = elim (has_or_not s (record { subject = a; predicate = property_iri properties.QualifiedValueShape; object = b })) [
  | inl own ↦ inl (properties.QualifiedValueShape, b, own, refl)
  | inr foreign ↦ inr (h.0.1.0, h.0.1.1, foreign, (parent, h.1.0, h.0.0, h.1.1, h.1.2))
]

pub are_references : (s : List Triple) (parents : List Term) (new direct all : List Bundle) → new ≡ [] → ((n : Term) → Contains parents n ↔ IsParent s n)
    → HasBound (IsReferredBy s) s new direct → HasBound (AreUnder s) parents direct all → AreReferences s all
are_references s parents new direct all none each first second a b = (
  λ h. elim ((second a b).0 h) [
    | inl d ↦ elim ((first a b).0 d) [
      | inl n ↦ absurd (bound_nothing new a b none n)
      | inr g ↦ by_triple s g.0 a b g.1 g.2
    ]
    | inr g ↦ by_parent s g.0 a b g.2
  ],
  λ h. elim h [
    | inl k ↦ (second a b).1 (inl ((first a b).1 (inr (record { subject = a; predicate = property_iri k.0; object = k.1 }, k.2, (refl, (k.0, refl, k.3))))))
    | inr k ↦
        let q = k.3 in
        (second a b).1 (inr (q.0, (each q.0).1 (a, q.2), ((q.2, (k.0, k.1)), (q.1, q.3, q.4))))
  ],
)

-- ---- chains

chain_as : (R S : Term → Term → Type 0) → ((a b : Term) → R a b → S a b) → (a : Term) (ms : List Term) (b : Term) → Chain R a ms b → Chain S a ms b
chain_as R S f a [] b h = f a b h
chain_as R S f a (m ∷ ms) b h = (f a m h.0, chain_as R S f m ms b h.1)

loop_as : (s : List Triple) (references : List Bundle) → AreReferences s references → (n : Term) → IsOnLoop (IsBound references) n ↔ IsRecursive s n
loop_as s references are n = (
  λ h. (h.0, chain_as (IsBound references) (NamesShape s) (λ a b j. (are a b).0 j) n h.0 n h.1),
  λ h. (h.0, chain_as (NamesShape s) (IsBound references) (λ a b k. (are a b).1 k) n h.0 n h.1),
)

pub found_as : (s : List Triple) (references : List Bundle) → AreReferences s references → (found : Option Term)
    → MatchOption found ((n : Term) → IsOnLoop (IsBound references) n → ⊥) (λ n. IsLeastNode (IsOnLoop (IsBound references)) n)
    → MatchOption found ((n : Term) → IsRecursive s n → ⊥) (λ n. IsLeastRecursive s n)
found_as s references are None h = λ n k. h n ((loop_as s references are n).1 k)
found_as s references are (Some n) h = ((loop_as s references are n).0 h.0, λ m k. h.1 m ((loop_as s references are m).1 k))

counted_as : (R S : Term → Term → Type 0) → ((a b : Term) → R a b → S a b) → (n : ℕ) (a : Term) → HasChain R n a → HasChain S n a
counted_as R S f zero a h = tt
counted_as R S f (suc n) a h = (h.0, f a h.0 h.1, counted_as R S f n h.0 h.2)

long_as : (s : List Triple) (references : List Bundle) → AreReferences s references → (n : Term) → HasChain (IsBound references) levels_limit n ↔ HasLongChain s n
long_as s references are n = (
  counted_as (IsBound references) (NamesShape s) (λ a b j. (are a b).0 j) levels_limit n,
  counted_as (NamesShape s) (IsBound references) (λ a b k. (are a b).1 k) levels_limit n,
)

pub found_long_as : (s : List Triple) (references : List Bundle) → AreReferences s references → (found : Option Term)
    → MatchOption found ((n : Term) → HasChain (IsBound references) levels_limit n → ⊥) (λ n. IsLeastNode (HasChain (IsBound references) levels_limit) n)
    → MatchOption found ((n : Term) → HasLongChain s n → ⊥) (λ n. IsLeastWithLongChain s n)
found_long_as s references are None h = λ n k. h n ((long_as s references are n).1 k)
found_long_as s references are (Some n) h = ((long_as s references are n).0 h.0, λ m k. h.1 m ((long_as s references are m).1 k))

-- an item in a new list
pub one_in : (old now : List Term) (n : Term) → old ≡ [] → now ≡ old ++ n ∷ [] → (x : Term) → Contains now x ↔ (n ≡ x)
one_in old now n e f x = (
  λ c. elim (Contains-push_cases old n x (subst (λ (xs : List Term). Contains xs x) f c)) [ inl o ↦ absurd (let k = subst (λ (xs : List Term). Contains xs x) e o in omega arith) | inr d ↦ d ],
  λ d. subst (λ (y : Term). Contains now y) d (subst (λ (xs : List Term). Contains xs n) (sym f) (Contains-push old n)),
)
