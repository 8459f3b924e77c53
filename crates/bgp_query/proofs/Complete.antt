-- The rows of all patterns are the bindings.
use Rattle.std.proofs.Common.{◌≡◌, ◌∙◌, ◌<◌, ◌≤◌, ◌-◌, ℕ, List, [], sym, subst, arith, inr, length, Err}
use Rattle.std.specs.Prelude.{◌↔◌, IfErr, Result}
use Rattle.std.specs.List.{Contains}
use Rattle.std.specs.List.Sorted.{IsPermutation}
use Rattle.std.specs.Cmp.Lexicographic.{slice_cmp}
use Rattle.std.specs.Ordering.{nat_cmp}
use Rattle.std.proofs.lemmas.Cmp.{nat_list_cmp_total}
use Rattle.std.proofs.lemmas.List.Sorted.{Contains-permutation, IsPermutation-sym}
use Rattle.collections.specs.Listings.{IsListing}
use Rattle.rdf_model.specs.declared.ids.Ids.{Ids}
use Rattle.triple_index.specs.Patterns.{ListsOnce}
use Rattle.bgp_query.specs.declared.pattern.JoinPattern.{JoinPattern}
use Rattle.bgp_query.specs.declared.trail.BoundVariable.{BoundVariable}
use Rattle.bgp_query.specs.declared.fault.JoinFault.{JoinFault}
use Rattle.bgp_query.specs.declared.fault.JoinFault.TheVariants.{TooMany}
use Rattle.bgp_query.specs.AllBindings.{AreBindings}
use Rattle.bgp_query.specs.Bindings.{HasMore, IsBinding, IsIn, Occurs, most_bindings}
use Rattle.bgp_query.specs.Trails.{Added, Covers, IsReach, IsRow, IsTrail, Overflows, PatternsBelow}
use Rattle.bgp_query.proofs.Once.{apart_ascending, no_more}

-- what was added to nothing
pub added_once : {X : Type 0} (most : ℕ) (P : X → Type 0) (new : List X) → Added most P [] new → ListsOnce P new
added_once most P new a = subst (λ (xs : List _). ListsOnce P xs) (sym a.grown) a.listed

pub overflows_more : {X : Type 0} (most : ℕ) (P : X → Type 0) (new : List X) → Overflows most P [] new → HasMore most P
overflows_more most P new o = record { items = o.added; apart = o.apart; members = o.members; more = subst (λ (xs : List _). most < length xs) o.grown o.more }

pub more_as : {X : Type 0} (most : ℕ) (P Q : X → Type 0) → ((x : X) → P x → Q x) → HasMore most P → HasMore most Q
more_as most P Q e h = record { items = h.items; apart = h.apart; members = λ x c. e x (h.members x c); more = h.more }

not_below : (a b : ℕ) → ((v : ℕ) → v < a → v < b) → b < a → ⊥
not_below a b f l = let k = f b l in absurd (omega (arith, k))

same_size : (a b : ℕ) → ((v : ℕ) → v < a → v < b) → ((v : ℕ) → v < b → v < a) → a ≡ b
same_size a b f g = let p = not_below a b f in let q = not_below b a g in omega (arith, p, q)

module _ (ids : List Ids) (patterns plan : List (JoinPattern ℕ)) (n : ℕ) (reach : IsReach (Occurs patterns) n) where
  -- where a number below is no variable's there is no binding
  pub no_binding : (v : ℕ) → v < n → (Occurs patterns v → ⊥) → (xs : List ℕ) → IsBinding (IsIn ids) patterns xs → ⊥
  no_binding v l o xs b =
      let top : Occurs patterns (n - 1) = reach.top (n - 1) (omega (arith, l)) in
      let in' : n - 1 < length xs = (b.variables (n - 1)).1 top in
      o ((b.variables v).0 (omega (arith, l, in')))

  module _ (all : (v : ℕ) → v < n → Occurs patterns v) (order : IsPermutation patterns plan) where
    to_plan : (v : ℕ) → Occurs patterns v → Occurs plan v
    to_plan v o = (o.0, Contains-permutation patterns plan o.0 order o.1, o.2)

    from_plan : (v : ℕ) → Occurs plan v → Occurs patterns v
    from_plan v o = (o.0, Contains-permutation plan patterns o.0 (IsPermutation-sym patterns plan order) o.1, o.2)

    pub plan_below : PatternsBelow n plan
    plan_below v o = reach.below v (from_plan v o)

    pub plan_covers : (trail : List BoundVariable) → Covers n trail plan
    plan_covers trail v l = inr (to_plan v (all v l))

    row_binding : (xs : List ℕ) → IsRow ids n [] plan xs → IsBinding (IsIn ids) patterns xs
    row_binding xs r = record {
      variables = λ v. (λ l. all v (subst (λ (m : ℕ). v < m) r.full.size l), λ o. subst (λ (m : ℕ). v < m) (sym r.full.size) (reach.below v o));
      stand = λ p c. r.stand p (Contains-permutation patterns plan p order c);
    }

    binding_row : (xs : List ℕ) → IsBinding (IsIn ids) patterns xs → IsRow ids n [] plan xs
    binding_row xs b = record {
      full = record { size = same_size (length xs) n (λ v l. reach.below v ((b.variables v).0 l)) (λ v l. (b.variables v).1 (all v l)); fits = λ k d l. absurd (omega arith) };
      stand = λ p c. b.stand p (Contains-permutation plan patterns p (IsPermutation-sym patterns plan order) c);
    }

    pub all_more : HasMore most_bindings (IsRow ids n [] plan) → HasMore most_bindings (IsBinding (IsIn ids) patterns)
    all_more h = more_as most_bindings (IsRow ids n [] plan) (IsBinding (IsIn ids) patterns) row_binding h

-- a list of all, which is short, excludes more
pub not_more : {X : Type 0} (most : ℕ) (P : X → Type 0) (xs : List X) → ((x : X) → P x → Contains xs x) → length xs ≤ most → HasMore most P → ⊥
not_more most P xs all l h =
    let m = no_more h.items xs h.apart (λ x c. all x (h.members x c)) in
    let k = h.more in absurd (omega (arith, l, m, k))

pub none_more : {X : Type 0} (most : ℕ) (P : X → Type 0) → ((x : X) → P x → ⊥) → HasMore most P → ⊥
none_more most P n h = not_more most P [] (λ x p. absurd (n x p)) (omega arith) h

-- the rows of the plan, sorted
pub answered : (ids : List Ids) (patterns plan : List (JoinPattern ℕ)) (n : ℕ) (reach : IsReach (Occurs patterns) n) (all : (v : ℕ) → v < n → Occurs patterns v) (order : IsPermutation patterns plan) (rows sorted : List (List ℕ)) →
    ListsOnce (IsRow ids n [] plan) rows → length rows ≤ most_bindings → IsListing (slice_cmp nat_cmp) (Contains rows) sorted → AreBindings ids patterns sorted
answered ids patterns plan n reach all order rows sorted once few listing =
    let member : (xs : List ℕ) → Contains sorted xs ↔ IsBinding (IsIn ids) patterns xs = λ xs. (
      λ c. row_binding ids patterns plan n reach all order xs ((once.members xs).0 ((listing.members xs).0 c)),
      λ b. (listing.members xs).1 ((once.members xs).1 (binding_row ids patterns plan n reach all order xs b)),
    ) in
    let less = no_more sorted rows (apart_ascending (slice_cmp nat_cmp) nat_list_cmp_total sorted listing.ascending) (λ xs c. (listing.members xs).0 c) in
    let short : length sorted ≤ most_bindings = omega (arith, few, less) in
    record {
      listing = record { ascending = listing.ascending; members = member };
      few = short;
      not_more = not_more most_bindings (IsBinding (IsIn ids) patterns) sorted (λ xs b. (member xs).1 b) short;
    }

-- no rows, where a number below the reach is no variable's
pub none_answered : (ids : List Ids) (patterns : List (JoinPattern ℕ)) (n : ℕ) (reach : IsReach (Occurs patterns) n) (v : ℕ) → v < n → (Occurs patterns v → ⊥) → (rows : List (List ℕ)) → rows ≡ [] → AreBindings ids patterns rows
none_answered ids patterns n reach v l o rows e =
    let none : (xs : List ℕ) → IsBinding (IsIn ids) patterns xs → ⊥ = λ xs b. no_binding ids patterns patterns n reach v l o xs b in
    subst (λ (rs : List (List ℕ)). AreBindings ids patterns rs) (sym e) (record {
      listing = record { ascending = tt; members = λ xs. (λ c. absurd (omega arith), λ b. absurd (none xs b)) };
      few = omega arith;
      not_more = none_more most_bindings (IsBinding (IsIn ids) patterns) none;
    })

-- all that was added to nothing under no trail
module _ (ids : List Ids) (n : ℕ) (trail : List BoundVariable) (ps : List (JoinPattern ℕ)) (old new : List (List ℕ)) (e : trail ≡ []) (f : old ≡ []) where
  pub all_added : Added most_bindings (IsRow ids n trail ps) old new → ListsOnce (IsRow ids n [] ps) new
  all_added a = added_once most_bindings (IsRow ids n [] ps) new (subst (λ (rs : List (List ℕ)). Added most_bindings (IsRow ids n [] ps) rs new) f (subst (λ (bs : List BoundVariable). Added most_bindings (IsRow ids n bs ps) old new) e a))

  pub all_over : Overflows most_bindings (IsRow ids n trail ps) old new → HasMore most_bindings (IsRow ids n [] ps)
  all_over o = overflows_more most_bindings (IsRow ids n [] ps) new (subst (λ (rs : List (List ℕ)). Overflows most_bindings (IsRow ids n [] ps) rs new) f (subst (λ (bs : List BoundVariable). Overflows most_bindings (IsRow ids n bs ps) old new) e o))

pub empty_trail : (n : ℕ) (trail : List BoundVariable) → trail ≡ [] → IsTrail n trail
empty_trail n trail e = subst (λ (bs : List BoundVariable). IsTrail n bs) (sym e) (record { below = λ k d l. absurd (omega arith); single = λ v x y c d. absurd (omega arith) })

-- an error that is handed on
pub more_stopped : {T : Type 0} (Q : Type 0) (r : Result T JoinFault) (e f : JoinFault) → r ≡ Err e → e ≡ f → (f ≡ TooMany → Q) → IfErr r (λ x. x ≡ TooMany → Q)
more_stopped {T} Q r e f is same over = subst (λ (q : Result T JoinFault). IfErr q (λ x. x ≡ TooMany → Q)) (sym is) (λ many. over (sym same ∙ many))
