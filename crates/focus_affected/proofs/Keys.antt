-- Items with one key in a list in the order of the keys.
use Rattle.std.proofs.Common.{◌≡◌, ◌∙◌, ℕ, ◌+◌, ◌-◌, ◌<◌, ◌≤◌, Bool, true, false, List, [], ◌∷◌, length, take, drop, get_or, refl, sym, ap, subst, arith, Option, Some}
use Rattle.std.specs.Prelude.{◌↔◌, leb, ltb}
use Rattle.std.specs.List.{Contains, filter_map}
use Rattle.std.specs.List.Sorted.{IsPartitionPoint}
use Rattle.std.specs.Ordering.{nat_cmp}
use Rattle.std.proofs.lemmas.Bool.{leb-false, leb-true, ltb-false, ltb-true}
use Rattle.std.proofs.lemmas.List.{get_or-drop, get_or-take, length-drop, length-take-le}
use Rattle.collections.specs.Listings.{IsListing}
use Rattle.rdf_model.specs.declared.ids.Ids.{Ids}
use Rattle.rdf_model.proofs.Finding.{from_given, listing_same, to_given}
use Rattle.focus_affected.specs.declared.plan.NumberedKind.{NumberedKind}
use Rattle.focus_affected.specs.declared.plan.NumberedKind.TheVariants.{Out, In, OutAny}
use Rattle.focus_affected.specs.Plans.{IsOf, node_in}
use Rattle.focus_affected.proofs.Matched.{chosen}

-- a point by a test is one by what the test says
pub point_of : {X : Type 0} → (P Q : X → Type 0) (test : X → Bool) (xs : List X) (n : ℕ) → ((x : X) → test x ≡ true → P x) → ((x : X) → test x ≡ false → Q x)
    → IsPartitionPoint (λ x. test x ≡ true) (λ x. test x ≡ false) xs n → IsPartitionPoint P Q xs n
point_of P Q test xs n p q point = (λ k d low high. p (get_or xs k d) (point.0 k d low high), λ k d low high. q (get_or xs k d) (point.1 k d low high))

pub below_point : {X : Type 0} → (key : X → ℕ) (xs : List X) (p n : ℕ) → IsPartitionPoint (λ x. ltb (key x) p ≡ true) (λ x. ltb (key x) p ≡ false) xs n → IsPartitionPoint (λ x. key x < p) (λ x. p ≤ key x) xs n
below_point key xs p n = point_of (λ x. key x < p) (λ x. p ≤ key x) (λ x. ltb (key x) p) xs n (λ x h. ltb-true (key x) p h) (λ x h. ltb-false (key x) p h)

pub up_to_point : {X : Type 0} → (key : X → ℕ) (xs : List X) (p n : ℕ) → IsPartitionPoint (λ x. leb (key x) p ≡ true) (λ x. leb (key x) p ≡ false) xs n → IsPartitionPoint (λ x. key x ≤ p) (λ x. p < key x) xs n
up_to_point key xs p n = point_of (λ x. key x ≤ p) (λ x. p < key x) (λ x. leb (key x) p) xs n (λ x h. leb-true (key x) p h) (λ x h. leb-false (key x) p h)

first_of : {X : Type 0} → (xs : List X) → 0 < length xs → X
first_of [] lt = absurd (omega (arith, lt))
first_of (x ∷ xs) lt = x

not_less : (a b : ℕ) → (b < a → ⊥) → a ≤ b
not_less a b h = elim (ltb b a) as (λ (t : Bool). ltb b a ≡ t → a ≤ b) [ true ↦ λ e. absurd (h (ltb-true b a e)) | false ↦ λ e. ltb-false b a e ] refl

module _ {X : Type 0} (key : X → ℕ) (ids : List X) (p start end : ℕ) (first : start ≤ length ids) (last : end ≤ length ids)
    (low : IsPartitionPoint (λ (i : X). key i < p) (λ i. p ≤ key i) ids start)
    (high : IsPartitionPoint (λ (i : X). key i ≤ p) (λ i. p < key i) ids end) where
  pub in_turn : start ≤ end
  in_turn =
      -- else the one at the end would have a lower predicate, and a higher one
      let never : end < start → ⊥ = λ less.
      let any : X = first_of ids (omega (arith, less, first)) in
      let a = low.0 end any (omega arith) less in
      let b = high.1 end any (omega arith) (omega (arith, less, first)) in
      omega (arith, a, b)
      in
      not_less start end never

  pub run_members : (i : X) → Contains (take (end - start) (drop start ids)) i ↔ (Contains ids i × (key i ≡ p))
  run_members i =
      let rest : length (drop start ids) ≡ length ids - start = length-drop start ids in
      let many : length (take (end - start) (drop start ids)) ≡ end - start = length-take-le (end - start) (drop start ids) (omega (arith, rest, in_turn, last)) in (
        λ c.
            let k = c.0 in
            let less : k < end - start = omega (arith, c.1, many) in
            let is : get_or ids (start + k) i ≡ i = sym (get_or-drop start ids k i) ∙ (sym (get_or-take (end - start) (drop start ids) k i less) ∙ c.2) in
            let a = low.1 (start + k) i (omega arith) (omega (arith, less, last)) in
            let b = high.0 (start + k) i (omega arith) (omega (arith, less)) in
            let e : key (get_or ids (start + k) i) ≡ key i = ap key is in
            ((start + k, omega (arith, less, last), is), omega (arith, a, b, e)),
        λ h.
            let k = h.0.0 in
            let e : key (get_or ids k i) ≡ key i = ap key h.0.2 in
            let same = h.1 in
            let from : start ≤ k = not_less start k (λ less. let a = low.0 k i (omega arith) less in omega (arith, a, e, same)) in
            let within : k < end = let le : k + 1 ≤ end = not_less (k + 1) end (λ less. let b = high.1 k i (omega (arith, less)) h.0.1 in omega (arith, b, e, same)) in omega (arith, le) in
            let back : start + (k - start) ≡ k = omega (arith, from) in
            let is : get_or (take (end - start) (drop start ids)) (k - start) i ≡ i =
            get_or-take (end - start) (drop start ids) (k - start) i (omega (arith, from, within)) ∙ (get_or-drop start ids (k - start) i ∙ (ap (λ (n : ℕ). get_or ids n i) back ∙ h.0.2)) in
            (k - start, omega (arith, from, within, many), is),
      )

-- what is asked of a predicate matches triples with it alone
has_predicate : (kind : NumberedKind) (p : ℕ) → IsOf kind p → (i : Ids) (n : ℕ) → node_in kind i ≡ Some n → i.predicate ≡ p
has_predicate (Out q) p of i n e = sym (chosen q i.predicate i.subject n e).0 ∙ of
has_predicate (In q) p of i n e = sym (chosen q i.predicate i.object n e).0 ∙ of
has_predicate OutAny p of i n e = absurd of

pub run_nodes : (kind : NumberedKind) (p : ℕ) → IsOf kind p → (ids run : List Ids) → ((i : Ids) → Contains run i ↔ (Contains ids i × (i.predicate ≡ p)))
    → (nodes : List ℕ) → IsListing nat_cmp (Contains (filter_map (node_in kind) run)) nodes → IsListing nat_cmp (Contains (filter_map (node_in kind) ids)) nodes
run_nodes kind p of ids run is nodes l =
    listing_same nat_cmp (Contains (filter_map (node_in kind) run)) (Contains (filter_map (node_in kind) ids)) nodes (λ n. (
      λ c. let g = from_given (node_in kind) run n c in to_given (node_in kind) ids n g.0 ((is g.0).0 g.1).0 g.2,
      λ c. let g = from_given (node_in kind) ids n c in to_given (node_in kind) run n g.0 ((is g.0).1 (g.1, has_predicate kind p of g.0 n g.2)) g.2,
    )) l
