-- A shape refers to one list of shapes, and each of them is taken as a shape.
use Rattle.std.proofs.Common.{◌≡◌, ◌∙◌, List, [], ◌∷◌, ◌++◌, refl, sym, ap, subst, arith, inl, inr}
use Rattle.std.specs.List.{Contains}
use Rattle.std.proofs.lemmas.List.Elements.{Contains-append_cases}
use Rattle.collections.proofs.Members.{has_head, has_tail}
use Rattle.rdf_model.specs.declared.term.Term.{Term}
use Rattle.rdf_model.specs.declared.triple.Triple.{Triple}
use Rattle.rdf_model.specs.Terms.{term_cmp}
use Rattle.rdf_model.specs.Orders.{term_total}
use Rattle.shape_model.specs.Readings.{Sibling}
use Rattle.shape_model.proofs.Declarations.{values_law}
use Rattle.shape_model.proofs.Listings.{one_listing}
use Rattle.shape_syntax.proofs.Lists.{one_list}
use Rattle.shape_syntax.proofs.Scans.{contains_member}
use Rattle.shape_properties.specs.declared.property.ShapeProperty.{ShapeProperty}
use Rattle.shape_properties.specs.declared.property.ShapeProperty.TheVariants as properties
use Rattle.shape_properties.specs.Properties.{property_iri}
use Rattle.shape_sizes.specs.Sizes.{AreCounted, AreMembersAt, AreMembersOf, AreQualified, AreReferred, values}
use Rattle.shape_properties.specs.Syntax.{HasProperty, IsListed, IsTaken}

one_members : (s : List Triple) (head : Term) (ms ns : List Term) → AreMembersAt s head ms → AreMembersAt s head ns → ms ≡ ns
one_members s head ms ns (inl h) (inl k) = one_list s head ms ns h k
one_members s head ms ns (inl h) (inr k) = absurd (k.0 ms h)
one_members s head ms ns (inr h) (inl k) = absurd (h.0 ns k)
one_members s head ms ns (inr h) (inr k) = h.1 ∙ sym k.1

one_members_of : (s : List Triple) (heads ms ns : List Term) → AreMembersOf s heads ms → AreMembersOf s heads ns → ms ≡ ns
one_members_of s [] ms ns h k = h ∙ sym k
one_members_of s (x ∷ xs) ms ns h k =
    let first : h.0 ≡ k.0 = one_members s x h.0 k.0 h.2 k.2 in
    let others : h.1 ≡ k.1 = one_members_of s xs h.1 k.1 h.3 k.3 in
    h.4 ∙ ap (λ (zs : List Term). zs ++ h.1) first ∙ ap (λ (zs : List Term). k.0 ++ zs) others ∙ sym k.4

one_qualified : (s : List Triple) (n : Term) (ms ns : List Term) → AreQualified s n ms → AreQualified s n ns → ms ≡ ns
one_qualified s n ms ns (inl h) (inl k) = h.1.2 ∙ ap (λ (zs : List Term). values s n properties.QualifiedValueShape ++ zs) (one_listing term_cmp term_total (Sibling s n) h.1.0 k.1.0 h.1.1 k.1.1) ∙ sym k.1.2
one_qualified s n ms ns (inl h) (inr k) = absurd (k.0 h.0)
one_qualified s n ms ns (inr h) (inl k) = absurd (h.0 k.0)
one_qualified s n ms ns (inr h) (inr k) = h.1 ∙ sym k.1

one_counted : (s : List Triple) (n : Term) (ms ns : List Term) → AreCounted s n ms → AreCounted s n ns → ms ≡ ns
one_counted s n ms ns h k =
    let members : h.0 ≡ k.0 = one_members_of s _ h.0 k.0 h.2 k.2 in
    let qualified : h.1 ≡ k.1 = one_qualified s n h.1 k.1 h.3 k.3 in
    h.4 ∙ ap (λ (zs : List Term). values s n properties.Not ++ values s n properties.Node ++ values s n properties.Property ++ zs ++ h.1) members
    ∙ ap (λ (zs : List Term). values s n properties.Not ++ values s n properties.Node ++ values s n properties.Property ++ k.0 ++ zs) qualified ∙ sym k.4

pub one_referred : (s : List Triple) (n : Term) (ms ns : List Term) → AreReferred s n ms → AreReferred s n ns → ms ≡ ns
one_referred s n ms ns (inl h) (inl k) = h.1 ∙ sym k.1
one_referred s n ms ns (inl h) (inr k) = absurd (k.0 h.0)
one_referred s n ms ns (inr h) (inl k) = absurd (h.0 k.0)
one_referred s n ms ns (inr h) (inr k) = one_counted s n ms ns h.1 k.1

pub is_value : (s : List Triple) (n : Term) (p : ShapeProperty) (v : Term) → Contains (values s n p) v → HasProperty s n p v
is_value s n p v c = ((values_law s n (property_iri p)).members v).0 c

none_there : {X : Type 0} → (x : X) → Contains [] x → ⊥
none_there x c = absurd (let k = c.1 in omega arith)

-- a member of the lists is listed at one of the heads
listed : (s : List Triple) (heads ms : List Term) (m : Term) → AreMembersOf s heads ms → Contains ms m → (head : Term) × Contains heads head × IsListed s head m
listed s [] ms m h c = absurd (none_there m (subst (λ (xs : List Term). Contains xs m) h c))
listed s (x ∷ xs) ms m h c = elim (Contains-append_cases h.0 h.1 m (subst (λ (zs : List Term). Contains zs m) h.4 c)) [
  | inl here ↦ elim h.2 [
    | inl list ↦ (x, has_head x xs, (h.0, list, contains_member h.0 m here))
    | inr none ↦ absurd (none_there m (subst (λ (zs : List Term). Contains zs m) none.1 here))
  ]
  | inr there ↦ let k = listed s xs h.1 m h.3 there in (k.0, has_tail x xs k.0 k.1, k.2)
]

list_taken : (s : List Triple) (n head m : Term) → Contains (values s n properties.And ++ values s n properties.Or ++ values s n properties.Xone) head → IsListed s head m → IsTaken s m
list_taken s n head m c listed = elim (Contains-append_cases (values s n properties.And ++ values s n properties.Or) (values s n properties.Xone) head c) [
  | inl there ↦ elim (Contains-append_cases (values s n properties.And) (values s n properties.Or) head there) [
    | inl here ↦ (n, (properties.And, head, is_value s n properties.And head here, listed))
    | inr here ↦ (n, (properties.Or, head, is_value s n properties.Or head here, listed))
  ]
  | inr here ↦ (n, (properties.Xone, head, is_value s n properties.Xone head here, listed))
]

qualified_taken : (s : List Triple) (n m : Term) (ms : List Term) → AreQualified s n ms → Contains ms m → IsTaken s m
qualified_taken s n m ms (inl h) c = elim (Contains-append_cases (values s n properties.QualifiedValueShape) h.1.0 m (subst (λ (zs : List Term). Contains zs m) h.1.2 c)) [
  | inl here ↦ (n, (properties.QualifiedValueShape, m, is_value s n properties.QualifiedValueShape m here, refl))
  | inr here ↦ let k = ((h.1.1.members m).0 here).3 in (k.1, (properties.QualifiedValueShape, m, k.4, refl))
]
qualified_taken s n m ms (inr h) c = absurd (none_there m (subst (λ (zs : List Term). Contains zs m) h.1 c))

counted_taken : (s : List Triple) (n m : Term) (ms : List Term) → AreCounted s n ms → Contains ms m → IsTaken s m
counted_taken s n m ms h c =
    let plain = values s n properties.Not ++ values s n properties.Node ++ values s n properties.Property in
    elim (Contains-append_cases (plain ++ h.0) h.1 m (subst (λ (zs : List Term). Contains zs m) h.4 c)) [
      | inl first ↦ elim (Contains-append_cases plain h.0 m first) [
        | inl value ↦ elim (Contains-append_cases (values s n properties.Not ++ values s n properties.Node) (values s n properties.Property) m value) [
          | inl other ↦ elim (Contains-append_cases (values s n properties.Not) (values s n properties.Node) m other) [
            | inl here ↦ (n, (properties.Not, m, is_value s n properties.Not m here, refl))
            | inr here ↦ (n, (properties.Node, m, is_value s n properties.Node m here, refl))
          ]
          | inr here ↦ (n, (properties.Property, m, is_value s n properties.Property m here, refl))
        ]
        | inr here ↦ let k = listed s _ h.0 m h.2 here in list_taken s n k.0 m k.1 k.2
      ]
      | inr here ↦ qualified_taken s n m h.1 h.3 here
    ]

pub referred_taken : (s : List Triple) (n m : Term) (ms : List Term) → AreReferred s n ms → Contains ms m → IsTaken s m
referred_taken s n m ms (inl h) c = absurd (none_there m (subst (λ (zs : List Term). Contains zs m) h.1 c))
referred_taken s n m ms (inr h) c = counted_taken s n m ms h.1 c
