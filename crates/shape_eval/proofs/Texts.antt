-- Members of lists in another order, and the flags of a pattern.
use Rattle.std.proofs.Common.{◌≡◌, ◌∙◌, ◌<◌, ℕ, List, [], ◌∷◌, length, map, refl, sym, ap, arith, subst, inl, inr}
use Rattle.std.specs.Prelude.{◌⊎◌, ◌↔◌, Option, Some, None}
use Rattle.std.specs.List.{All, Contains}
use Rattle.std.specs.Ordering.{nat_cmp}
use Rattle.std.proofs.lemmas.List.Elements.{All-contains}
use Rattle.collections.specs.Listings.{IsListing}
use Rattle.component_rows.specs.Nodes.{AreNodes}
use Rattle.collections.proofs.Members.{has_cases, has_equal, has_tail}
use Rattle.literal_order.specs.Texts.{string_value}
use Rattle.rdf_model.specs.declared.term.Term.{Term}
use Rattle.rdf_model.specs.declared.term.Term.TheVariants.{Literal}
use Rattle.rdf_model.specs.Numbers.{term_at}
use Rattle.shape_model.specs.declared.component.Component.TheVariants as components
use Rattle.shape_model.specs.declared.result_row.ResultRow.{ResultRow}
use Rattle.shape_model.specs.Components.{Finding, ForEach, RowsOf, Surroundings}
use Rattle.shape_model.specs.Readings.{HasFlags}
use Rattle.shape_model.specs.Triples.{IsMember}
use Rattle.component_rows.specs.Listed.{with_list}
use Rattle.component_rows.proofs.Collecting.{mapped_from, mapped_to}
use Rattle.shape_ast.specs.Readings.{ReadShape}
use Rattle.shape_ast.specs.Standing.{HasFlagsText, shape_reading}
use Rattle.string_constraints.specs.Matches.{with_flags}
use Rattle.shape_eval.proofs.Lookups.{only_some, some_same}

member_of : (xs : List Term) (m : Term) → Contains xs m ↔ IsMember xs m
member_of [] m = (λ c. absurd (omega arith), λ i. absurd i)
member_of (x ∷ xs) m =
    let rest = member_of xs m in (
      λ c. elim (has_cases x xs m c) [ inl e ↦ inl e | inr d ↦ inr (rest.0 d) ],
      λ i. elim i [ inl e ↦ has_equal x xs m e | inr j ↦ has_tail x xs m (rest.1 j) ],
    )

-- numbers of the same terms
pub same_members : (terms : List Term) (xs ys : List ℕ) → ((n : ℕ) → Contains xs n ↔ Contains ys n) → (m : Term) → IsMember (map (term_at terms) xs) m → IsMember (map (term_at terms) ys) m
same_members terms xs ys e m i =
    let k = mapped_from (term_at terms) xs m ((member_of (map (term_at terms) xs) m).1 i) in
    (member_of (map (term_at terms) ys) m).0 (subst (λ (w : Term). Contains (map (term_at terms) ys) w) k.2 (mapped_to (term_at terms) ys k.0 ((e k.0).0 k.1)))

in_to : (t : Surroundings) (xs ys : List Term) → ((m : Term) → IsMember ys m → IsMember xs m) → (q : Term) (row : Finding → ResultRow) (r : ResultRow)
    → RowsOf components.In t (with_list xs) q row r → RowsOf components.In t (with_list ys) q row r
in_to t xs ys e q row r h =
    let k = subst (λ (ms : List Term). ForEach t row (λ v. IsMember ms v → ⊥) r) h.1 h.2 in
    (ys, refl, (k.0, k.1, (λ i. k.2 (e k.0 i)), k.3))

-- a list of the same members gives the same results
pub in_same : (t : Surroundings) (terms : List Term) (xs ys : List ℕ) → ((n : ℕ) → Contains xs n ↔ Contains ys n) → (q : Term) (row : Finding → ResultRow) (r : ResultRow)
    → RowsOf components.In t (with_list (map (term_at terms) xs)) q row r ↔ RowsOf components.In t (with_list (map (term_at terms) ys)) q row r
in_same t terms xs ys e q row r = (
  in_to t (map (term_at terms) xs) (map (term_at terms) ys) (same_members terms ys xs (λ n. let k = e n in (k.1, k.0))) q row r,
  in_to t (map (term_at terms) ys) (map (term_at terms) xs) (same_members terms xs ys e) q row r,
)

module _ (flags : List ℕ) where
  told_flags : (fl : List ℕ) → HasFlags (with_flags flags) fl ↔ (fl ≡ flags)
  told_flags fl = (
    elim [
      | inl h ↦ only_some (string_value h.0) fl flags h.2 h.1
      | inr h ↦ absurd (h.0 (Literal flags [] None) refl)
    ],
    λ e. inl (Literal flags [] None, refl, ap Some (sym e)),
  )

  abbrev OwnFlags : Option Term → List ℕ → Type 0
  OwnFlags o fl = ((q : Term) × (o ≡ Some q) × (string_value q ≡ Some fl)) ⊎ (((q : Term) → o ≡ Some q → ⊥) × (fl ≡ []))

  own_flags : (o : Option Term) → HasFlagsText o flags → (fl : List ℕ) → OwnFlags o fl ↔ (fl ≡ flags)
  own_flags None h fl = (
    elim [ inl i ↦ (let e = i.1 in absurd (cc)) | inr i ↦ i.1 ∙ sym h ],
    λ e. inr ((λ q k. cc), e ∙ h),
  )
  own_flags (Some p) h fl = (
    elim [
      | inl i ↦ only_some (string_value p) fl flags (ap string_value (some_same p i.0 i.1) ∙ i.2) h
      | inr i ↦ absurd (i.0 p refl)
    ],
    λ e. inl (p, refl, h ∙ ap Some (sym e)),
  )

  -- the flags that are told are the shape's
  pub pattern_same : (t : Surroundings) (shapes : List ReadShape) (c : ReadShape) → HasFlagsText c.flags flags → (q : Term) (row : Finding → ResultRow) (r : ResultRow)
      → RowsOf components.Pattern t (with_flags flags) q row r ↔ RowsOf components.Pattern t (shape_reading shapes c) q row r
  pattern_same t shapes c text q row r = (
    λ h. (h.0, h.1, (λ k. h.2 (k.0, (told_flags k.0).1 ((own_flags c.flags text k.0).0 k.1), k.2)), h.3),
    λ h. (h.0, h.1, (λ k. h.2 (k.0, (own_flags c.flags text k.0).1 ((told_flags k.0).0 k.1), k.2)), h.3),
  )

-- numbers of terms in order
pub sorted_nodes : (terms : List Term) (members sorted : List ℕ) → All (λ n. n < length terms) members → IsListing nat_cmp (Contains members) sorted → AreNodes terms sorted
sorted_nodes terms members sorted all listing = record {
  ascending = listing.ascending;
  named = λ n c. All-contains (λ n. n < length terms) members n all ((listing.members n).0 c);
}
