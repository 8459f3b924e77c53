-- The nodes of shapes at places.
use Rattle.std.proofs.Common.{◌≡◌, ◌∙◌, ℕ, zero, suc, ◌<◌, Bool, true, false, List, [], ◌∷◌, ◌++◌, length, refl, ap, subst, arith, inl, inr}
use Rattle.std.specs.Prelude.{◌↔◌, nat_lt}
use Rattle.std.specs.List.{All, Contains}
use Rattle.std.specs.Ordering.{nat_cmp}
use Rattle.std.specs.Cmp.{nat_cmp_is}
use Rattle.std.specs.declared.cmp.Ordering.TheVariants.{Less, Equal, Greater}
use Rattle.std.proofs.lemmas.Bool.Decides.{nat_tests}
use Rattle.collections.specs.Listings.{IsListing}
use Rattle.collections.specs.Ordered.{AllAbove, IsAscending}
use Rattle.collections.proofs.Members.{below, has_cases, has_equal, has_head, has_tail}
use Rattle.rdf_model.specs.declared.term.Term.{Term}
use Rattle.rdf_model.specs.Orders.{term_total}
use Rattle.rdf_model.specs.Terms.{term_cmp}
use Rattle.reference_totals.specs.Totals.{SumBy}
use Rattle.shape_model.proofs.Listings.{one_listing}
use Rattle.shape_ast.specs.Readings.{ReadShape}
use Rattle.shape_ast.specs.Standing.{AreAt, IsAt, IsAtSome, shape_cmp}
use Rattle.read_plans.proofs.Plans.{of_place}
use Rattle.read_plans.proofs.Referred.{nodes_at, one_at}
use Rattle.plan_laws.proofs.Sums.{total}

below_at : (a b : ℕ) (t u : Bool) → nat_lt a b ≡ t → nat_lt b a ≡ u → nat_cmp a b ≡ Less → a < b
below_at a b true u e f h = grind (arith, nat_tests)
below_at a b false true e f h = let more : b < a = grind (arith, nat_tests) in let greater : Greater ≡ nat_cmp a b = nat_cmp_is a b Greater more in cc (greater, h)
below_at a b false false e f h = let same : a ≡ b = grind (arith, nat_tests) in let equal : Equal ≡ nat_cmp a b = nat_cmp_is a b Equal same in cc (equal, h)

less_from : (a b : ℕ) → nat_cmp a b ≡ Less → a < b
less_from a b = below_at a b (nat_lt a b) (nat_lt b a) refl refl

-- nodes rise with their places
nodes_rise : (shapes : List ReadShape) → IsAscending shape_cmp shapes → (j k : ℕ) (t u : Term) → j < k → IsAt shapes j t → IsAt shapes k u → term_cmp t u ≡ Less
nodes_rise [] a j k t u l d e = let h = d.1 in cc
nodes_rise (x ∷ xs) a j zero t u l d e = absurd (omega (arith, l))
nodes_rise (x ∷ xs) a zero (suc k) t u l d e =
    let first : x ≡ d.0 = (let h = d.1 in cc) in
    let low : term_cmp x.node e.0.node ≡ Less = below shape_cmp x xs e.0 a.0 (of_place xs k e.0 e.1) in
    let left : x.node ≡ t = ap (λ (c : ReadShape). c.node) first ∙ d.2 in
    subst (λ (w : Term). term_cmp w u ≡ Less) left (subst (λ (w : Term). term_cmp x.node w ≡ Less) e.2 low)
nodes_rise (x ∷ xs) a (suc j) (suc k) t u l d e = nodes_rise xs a.1 j k t u (omega (arith, l)) d e

module _ (shapes : List ReadShape) where
  at_from : (ns : List ℕ) (ts : List Term) → AreAt shapes ns ts → (t : Term) → Contains ts t → IsAtSome shapes ns t
  at_from [] [] at t c = absurd (let l = c.1 in omega arith)
  at_from [] (u ∷ ts) at t c = absurd at
  at_from (n ∷ ns) [] at t c = absurd at
  at_from (n ∷ ns) (u ∷ ts) at t c = elim (has_cases u ts t c) [
    | inl e ↦ (n, has_head n ns, subst (λ (w : Term). IsAt shapes n w) e at.0)
    | inr d ↦ (let h = at_from ns ts at.1 t d in (h.0, has_tail n ns h.0 h.1, h.2))
  ]

  at_to : (ns : List ℕ) (ts : List Term) → AreAt shapes ns ts → (t : Term) → IsAtSome shapes ns t → Contains ts t
  at_to [] ts at t h = absurd (let l = h.1.1 in omega arith)
  at_to (n ∷ ns) [] at t h = absurd at
  at_to (n ∷ ns) (u ∷ ts) at t h = elim (has_cases n ns h.0 h.1) [
    | inl e ↦ has_equal u ts t (one_at shapes h.0 u t (subst (λ (m : ℕ). IsAt shapes m u) e at.0) h.2)
    | inr d ↦ has_tail u ts t (at_to ns ts at.1 t (h.0, d, h.2))
  ]

  pub at_append : (ms ns : List ℕ) (ts us : List Term) → AreAt shapes ms ts → AreAt shapes ns us → AreAt shapes (ms ++ ns) (ts ++ us)
  at_append [] ns [] us a b = b
  at_append [] ns (t ∷ ts) us a b = absurd a
  at_append (m ∷ ms) ns [] us a b = absurd a
  at_append (m ∷ ms) ns (t ∷ ts) us a b = (a.0, at_append ms ns ts us a.1 b)

  -- what the places have is the sum of what their nodes have
  pub sum_at : (T : Term → ℕ → Type 0) (f : ℕ → ℕ) (ns : List ℕ) (ts : List Term) → AreAt shapes ns ts → ((n : ℕ) (t : Term) → Contains ns n → IsAt shapes n t → T t (f n)) → SumBy T ts (total f ns)
  sum_at T f [] [] at each = refl
  sum_at T f [] (t ∷ ts) at each = absurd at
  sum_at T f (n ∷ ns) [] at each = absurd at
  sum_at T f (n ∷ ns) (t ∷ ts) at each = (f n, total f ns, each n t (has_head n ns) at.0, sum_at T f ns ts at.1 (λ m u c. each m u (has_tail n ns m c)), refl)

  module _ (ascending : IsAscending shape_cmp shapes) where
    at_above : (n : ℕ) (t : Term) (ns : List ℕ) (ts : List Term) → IsAt shapes n t → AllAbove nat_cmp n ns → AreAt shapes ns ts → AllAbove term_cmp t ts
    at_above n t [] [] i a at = tt
    at_above n t [] (u ∷ ts) i a at = absurd at
    at_above n t (m ∷ ns) [] i a at = absurd at
    at_above n t (m ∷ ns) (u ∷ ts) i a at = (nodes_rise shapes ascending n m t u (less_from n m a.0) i at.0, at_above n t ns ts i a.1 at.1)

    at_ascending : (ns : List ℕ) (ts : List Term) → IsAscending nat_cmp ns → AreAt shapes ns ts → IsAscending term_cmp ts
    at_ascending [] [] a at = tt
    at_ascending [] (t ∷ ts) a at = absurd at
    at_ascending (n ∷ ns) [] a at = absurd at
    at_ascending (n ∷ ns) (t ∷ ts) a at = (at_above n t ns ts at.0 a.0 at.1, at_ascending ns ts a.1 at.1)

    -- the nodes at ascending places are a listing
    pub nodes_listed : (P : Term → Type 0) (ns : List ℕ) → IsAscending nat_cmp ns → All (λ n. n < length shapes) ns → ((t : Term) → P t ↔ IsAtSome shapes ns t) → (us : List Term) × IsListing term_cmp P us × AreAt shapes ns us
    nodes_listed P ns a within same =
        let h = nodes_at shapes ns within in (
          h.0,
          record { ascending = at_ascending ns h.0 a h.1; members = λ t. (λ c. (same t).1 (at_from ns h.0 h.1 t c), λ p. at_to ns h.0 h.1 t ((same t).0 p)) },
          h.1,
        )

    pub listed_at : (P : Term → Type 0) (ns : List ℕ) (us : List Term) → IsAscending nat_cmp ns → All (λ n. n < length shapes) ns → IsListing term_cmp P us → ((t : Term) → P t ↔ IsAtSome shapes ns t) → AreAt shapes ns us
    listed_at P ns us a within listing same =
        let h = nodes_listed P ns a within same in
        subst (λ (ts : List Term). AreAt shapes ns ts) (one_listing term_cmp term_total P h.0 us h.1 listing) h.2
