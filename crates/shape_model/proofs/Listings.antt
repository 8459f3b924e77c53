-- A graph has at most one listing, and a count is one number.
use Rattle.std.proofs.Common.{◌∙◌, List, [], length, sym, ap, subst, arith, inl, inr}
use Rattle.std.specs.Prelude.{◌≡◌, ◌↔◌}
use Rattle.std.specs.List.{Contains}
use Rattle.std.specs.declared.cmp.Ordering.{Ordering}
use Rattle.std.specs.Cmp.{IsTotalOrder}
use Rattle.rdf_model.specs.declared.term.Term.{Term}
use Rattle.rdf_model.specs.declared.triple.Triple.{Triple}
use Rattle.rdf_model.specs.Terms.{term_cmp}
use Rattle.rdf_model.specs.Orders.{term_total}
use Rattle.shape_model.specs.Laws.{ConformsLaw, CountLaw, ListingLaw, NoShapesLaw}
use Rattle.collections.specs.Listings.{IsListing}
use Rattle.shape_model.specs.Orders.{result_row_total}
use Rattle.shape_model.specs.Readings.{ValueNode, reading}
use Rattle.shape_model.specs.Rows.{result_row_cmp}
use Rattle.shape_model.specs.Targets.{Target}
use Rattle.shape_model.specs.Validation.{IsResult, Listing, NoResult}
use Rattle.shape_model.specs.Vocabulary.{ShTargetClass, ShTargetNode, ShTargetObjectsOf, ShTargetSubjectsOf, property_iri, rdf_type}
use Rattle.shape_model.specs.declared.result_row.ResultRow.{ResultRow}
use Rattle.collections.proofs.Members.{same_lists}

pub listing_same : {X : Type 0} → (R : X → X → Ordering) (P Q : X → Type 0) → ((x : X) → P x ↔ Q x) → (xs : List X) → IsListing R P xs → IsListing R Q xs
listing_same R P Q e xs i = record { ascending = i.ascending; members = λ x. (λ c. (e x).0 ((i.members x).0 c), λ q. (i.members x).1 ((e x).1 q)) }

pub one_listing : {X : Type 0} → (R : X → X → Ordering) → IsTotalOrder R → (P : X → Type 0) (xs ys : List X) → IsListing R P xs → IsListing R P ys → xs ≡ ys
one_listing R total P xs ys i j = same_lists R total xs ys i.ascending j.ascending
    (λ w. (λ c. (j.members w).1 ((i.members w).0 c), λ c. (i.members w).1 ((j.members w).0 c)))

pub listing_law : ListingLaw
listing_law g s rows others i j = one_listing result_row_cmp result_row_total (IsResult g s) rows others i j

empty_listing : (g s : List Triple) → NoResult g s → Listing g s []
empty_listing g s none = record { ascending = tt; members = λ r. (λ c. absurd (omega arith), λ i. absurd (none r i)) }

pub conforms_law : ConformsLaw
conforms_law g s = (λ none. empty_listing g s none, λ l r i. let c = (l.members r).1 i in absurd (omega arith))

no_triple : (t : Triple) → Contains [] t → ⊥
no_triple t c = absurd (omega arith)

no_target : (g : List Triple) (shape f : Term) → Target g [] shape f → ⊥
no_target g shape f = elim [
  | inl i ↦ no_triple (record { subject = shape; predicate = property_iri ShTargetNode; object = f }) i
  | inr (inl i) ↦ no_triple (record { subject = shape; predicate = property_iri ShTargetClass; object = i.0 }) i.1
  | inr (inr (inl i)) ↦ no_triple (record { subject = shape; predicate = rdf_type; object = i.0.1.0 }) i.0.1.1
  | inr (inr (inr (inl i))) ↦ no_triple (record { subject = shape; predicate = property_iri ShTargetSubjectsOf; object = i.0 }) i.1
  | inr (inr (inr (inr i))) ↦ no_triple (record { subject = shape; predicate = property_iri ShTargetObjectsOf; object = i.0 }) i.1
]

pub no_shapes_law : NoShapesLaw
no_shapes_law g rows =
    let empty = empty_listing g [] (λ r i. no_target g i.0 i.1 i.2) in
    (λ l. listing_law g [] rows [] l empty, λ e. subst (λ (xs : List ResultRow). Listing g [] xs) (sym e) empty)

pub count_law : CountLaw
count_law g s shape f n m c d =
    sym c.count ∙ ap length (one_listing term_cmp term_total (ValueNode g (reading s shape) f) c.items d.items c.listing d.listing) ∙ d.count
