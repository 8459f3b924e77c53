-- Lists of shapes as they are gathered.
use Rattle.std.proofs.Common.{◌≡◌, ◌∙◌, ℕ, ◌+◌, ◌<◌, List, [], ◌∷◌, ◌++◌, length, take, get_or, refl, sym, ap, subst, append_assoc, append-nil, arith, inl, inr}
use Rattle.std.specs.Prelude.{◌⊎◌, ◌↔◌}
use Rattle.std.specs.List.{Contains}
use Rattle.std.proofs.lemmas.List.{take_more}
use Rattle.std.proofs.lemmas.List.Elements.{Contains-append_left, Contains-push, Contains-push_cases}
use Rattle.collections.specs.Listings.{IsListing}
use Rattle.rdf_model.specs.declared.term.Term.{Term}
use Rattle.rdf_model.specs.declared.triple.Triple.{Triple}
use Rattle.rdf_model.specs.Terms.{term_cmp}
use Rattle.rdf_model.specs.Orders.{term_total}
use Rattle.shape_model.specs.Readings.{Sibling}
use Rattle.shape_model.proofs.Declarations.{values_law}
use Rattle.shape_model.proofs.Listings.{listing_same, one_listing}
use Rattle.reference_totals.specs.declared.place.WeightedPlace.{WeightedPlace}
use Rattle.shape_syntax.specs.Gathering.{Gives}
use Rattle.shape_syntax.proofs.Scans.{cases_more}
use Rattle.shape_properties.specs.declared.property.ShapeProperty.{ShapeProperty}
use Rattle.shape_sizes.specs.Counted.{AreShapePlaces, HasAdded, IsPlaceOf}
use Rattle.shape_properties.specs.Properties.{property_iri}
use Rattle.shape_sizes.specs.Sizes.{AreMembersAt, AreMembersOf, values}
use Rattle.shape_properties.specs.Syntax.{HasProperty, IsShape}

-- copies so far, and one more
pub copied_next : {X : Type 0} → (old now next xs : List X) (i : ℕ) (x : X) → i < length xs → x ≡ get_or xs i x → now ≡ old ++ take i xs → next ≡ now ++ x ∷ [] → next ≡ old ++ take (i + 1) xs
copied_next old now next xs i x l e before f =
    f ∙ ap (λ zs. zs ++ x ∷ []) before ∙ append_assoc old (take i xs) (x ∷ []) ∙ ap (λ zs. old ++ zs) (ap (λ w. take i xs ++ w ∷ []) e ∙ sym (take_more xs i x l))

-- the objects of the triples with a property are its values
pub values_found : (s own : List Triple) (n : Term) (p : ShapeProperty) (objects sorted : List Term)
    → ((t : Triple) → Contains own t → HasProperty s n p t.object)
    → ((v : Term) → HasProperty s n p v → Contains own (record { subject = n; predicate = property_iri p; object = v }))
    → ((v : Term) → Contains objects v ↔ Gives (λ (t : Triple) (w : Term). t.object ≡ w) own v)
    → IsListing term_cmp (Contains objects) sorted → sorted ≡ values s n p
values_found s own n p objects sorted each all found listing =
    one_listing term_cmp term_total (HasProperty s n p) sorted (values s n p)
    (listing_same term_cmp (Contains objects) (HasProperty s n p) (λ v. (
      λ c. let g = (found v).0 c in subst (λ (w : Term). HasProperty s n p w) g.2 (each g.0 g.1),
      λ h. (found v).1 (record { subject = n; predicate = property_iri p; object = v }, all v h, refl),
    )) sorted listing)
    (values_law s n (property_iri p))

pub siblings_found : (s : List Triple) (n : Term) (found sorted : List Term) → ((t : Term) → Contains found t ↔ (Contains [] t ⊎ Sibling s n t)) → IsListing term_cmp (Contains found) sorted
    → IsListing term_cmp (Sibling s n) sorted
siblings_found s n found sorted all listing = listing_same term_cmp (Contains found) (Sibling s n) (λ t. (
  λ c. elim ((all t).0 c) [ inl none ↦ absurd (let k = none.1 in omega arith) | inr h ↦ h ],
  λ h. (all t).1 (inr h),
)) sorted listing

-- nothing added
pub added_none : {X : Type 0} → (P : List X → Type 0) (old : List X) → P [] → HasAdded P old old
added_none P old h = ([], h, sym (append-nil old))

members_push : (s : List Triple) (heads : List Term) (head : Term) (ms first : List Term) → AreMembersOf s heads ms → AreMembersAt s head first → AreMembersOf s (heads ++ head ∷ []) (ms ++ first)
members_push s [] head ms first h k = (first, [], k, refl, ap (λ (zs : List Term). zs ++ first) h ∙ sym (append-nil first))
members_push s (x ∷ xs) head ms first h k =
    (h.0, h.1 ++ first, h.2, members_push s xs head h.1 first h.3 k, ap (λ (zs : List Term). zs ++ first) h.4 ∙ append_assoc h.0 h.1 first)

pub members_next : (s : List Triple) (heads : List Term) (i : ℕ) (head : Term) (old now next : List Term) → i < length heads → head ≡ get_or heads i head
    → HasAdded (AreMembersOf s (take i heads)) old now → HasAdded (AreMembersAt s head) now next → HasAdded (AreMembersOf s (take (i + 1) heads)) old next
members_next s heads i head old now next l e before step = (
  before.0 ++ step.0,
  subst (λ (xs : List Term). AreMembersOf s xs (before.0 ++ step.0)) (ap (λ (w : Term). take i heads ++ w ∷ []) e ∙ sym (take_more heads i head l)) (members_push s (take i heads) head before.0 step.0 before.1 step.1),
  step.2 ∙ ap (λ (zs : List Term). zs ++ step.0) before.2 ∙ append_assoc old before.0 step.0,
)

-- the places of so many nodes
pub record HavePlaces (s : List Triple) (W : Term → ℕ → Type 0) (parents nodes : List Term) (places : List WeightedPlace) : Type 0 where
  pub each : (p : WeightedPlace) → Contains places p → IsPlaceOf s W parents p
  pub all : (n : Term) → Contains nodes n → (p : WeightedPlace) × Contains places p × (p.node ≡ n)

pub places_none : (s : List Triple) (W : Term → ℕ → Type 0) (parents nodes : List Term) → HavePlaces s W parents (take 0 nodes) []
places_none s W parents nodes = record {
  each = λ p c. absurd (let k = c.1 in omega arith);
  all = λ n c. absurd (let k = c.1 in omega arith);
}

pub places_next : (s : List Triple) (W : Term → ℕ → Type 0) (parents nodes : List Term) (i : ℕ) (n : Term) (places next : List WeightedPlace) (p : WeightedPlace) → i < length nodes → n ≡ get_or nodes i n
    → HavePlaces s W parents (take i nodes) places → IsPlaceOf s W parents p → p.node ≡ n → next ≡ places ++ p ∷ [] → HavePlaces s W parents (take (i + 1) nodes) next
places_next s W parents nodes i n places next p l e before of same f = subst (λ (ps : List WeightedPlace). HavePlaces s W parents (take (i + 1) nodes) ps) (sym f) (record {
  each = λ q c. elim (Contains-push_cases places p q c) [
    | inl old ↦ before.each q old
    | inr g ↦ subst (λ (x : WeightedPlace). IsPlaceOf s W parents x) g of
  ];
  all = λ m c. elim (cases_more nodes i n l e m c) [
    | inl old ↦ let k = before.all m old in (k.0, Contains-append_left places (p ∷ []) k.0 k.1, k.2)
    | inr g ↦ (p, Contains-push places p, same ∙ g)
  ];
})

pub places_all : (s : List Triple) (W : Term → ℕ → Type 0) (parents nodes : List Term) (places : List WeightedPlace) → ((n : Term) → Contains nodes n ↔ IsShape s n) → HavePlaces s W parents nodes places → AreShapePlaces s W parents places
places_all s W parents nodes places all have = record { each = have.each; all = λ n may. have.all n ((all n).1 may) }
