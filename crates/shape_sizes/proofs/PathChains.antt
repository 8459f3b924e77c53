-- A path is as deep as the longest chain of steps from its node.
use Rattle.std.proofs.Common.{◌≡◌, ◌∙◌, ℕ, zero, suc, ◌+◌, ◌<◌, ◌≤◌, max, List, [], ◌∷◌, refl, sym, ap, subst, arith, inl, inr, add-one}
use Rattle.std.specs.Prelude.{◌⊎◌, ◌↔◌}
use Rattle.std.specs.List.{Contains}
use Rattle.collections.proofs.Members.{has_head, has_tail}
use Rattle.rdf_model.specs.declared.term.Term.{Term}
use Rattle.rdf_model.specs.declared.triple.Triple.{Triple}
use Rattle.shape_model.specs.Triples.{IsIri}
use Rattle.shape_model.specs.Paths.{Path, Predicate, Inverse, Sequence, Alternative, ZeroOrMore, OneOrMore, ZeroOrOne, Paths, Last, Also}
use Rattle.shape_model.specs.ShapeSyntax.{ListOf, PathOf, PathsOf}
use Rattle.shape_syntax.specs.PathDepth.{IsDeep, deepest_of, depth_of}
use Rattle.shape_syntax.proofs.Lists.{one_list}
use Rattle.shape_syntax.proofs.PathWays.{no_blank_iri}
use Rattle.reference_totals.specs.declared.place.WeightedPlace.{WeightedPlace}
use Rattle.reference_totals.proofs.TotalSums.{sum_has}
use Rattle.shape_references.specs.Chains.{AreWithChain, HasChain, IsJoined}
use Rattle.shape_sizes.specs.PathLooks.{AreDeepPaths, ArePathPlaces, ArePlaceSteps, MayBePath}
use Rattle.shape_sizes.specs.Sizes.{looks_of}
use Rattle.shape_sizes.proofs.PathParts.{AreParts, IsMadeAs, IsPart, made_as, member_may_be}
use Rattle.shape_sizes.proofs.PathSums.{LooksBelow, made_looks}

-- one of the nodes stands for a path that is so deep
abbrev HasDepth : List Triple → List Term → ℕ → Type 0
HasDepth s ms deep = (m : Term) × Contains ms m × MayBePath s m × ((r : Path) × PathOf s m r × (deep ≡ depth_of r))

either : (a b : ℕ) → (max a b ≡ a) ⊎ (max a b ≡ b)
either zero b = inr (omega arith)
either (suc a) zero = inl (omega arith)
either (suc a) (suc b) = elim (either a b) [ inl e ↦ inl (omega arith) | inr e ↦ inr (omega arith) ]

list_depth : (s : List Triple) (n : Term) (ps : Paths) → PathsOf s n ps → (ms : List Term) × ListOf s n ms × HasDepth s ms (deepest_of ps)
list_depth s n (Last p) h = (h.0 ∷ [], (h.1, h.2, h.3), (h.0, has_head h.0 [], member_may_be s n h.0 h.2.0.0, (p, h.4, refl)))
list_depth s n (Also p ps) h =
    let rest = list_depth s h.1 ps h.4 in
    let d = rest.2 in (
      h.0 ∷ rest.0,
      (h.1, h.2, rest.1),
      elim (either (depth_of p) (deepest_of ps)) [
        | inl e ↦ (h.0, has_head h.0 rest.0, member_may_be s n h.0 h.2.0.0, (p, h.3, e))
        | inr e ↦ (d.0, has_tail h.0 rest.0 d.0 d.1, d.2, (d.3.0, d.3.1, e ∙ d.3.2))
      ],
    )

part_depth : (s : List Triple) (r : Path) (to : List Term) → IsPart s r to → HasDepth s to (depth_of r)
part_depth s r to h = subst (λ (ms : List Term). HasDepth s ms (depth_of r)) (sym h.3) (h.0, has_head h.0 [], h.2, (r, h.1, refl))

parts_depth : (s : List Triple) (ps : Paths) (to : List Term) → AreParts s ps to → HasDepth s to (deepest_of ps)
parts_depth s ps to h =
    let found = list_depth s h.0 ps h.1 in
    subst (λ (ms : List Term). HasDepth s ms (deepest_of ps)) (one_list s h.0 found.0 to found.1 h.2) found.2

-- one of those of which a path is made is one level less deep
depth_as : (s : List Triple) (q : Path) (to : List Term) → IsMadeAs s q to → (deep : ℕ) × HasDepth s to deep × (depth_of q ≡ deep + 1)
depth_as s (Predicate p) to h = absurd h
depth_as s (Inverse r) to h = (depth_of r, part_depth s r to h, refl)
depth_as s (Sequence ps) to h = (deepest_of ps, parts_depth s ps to h, refl)
depth_as s (Alternative ps) to h = (deepest_of ps, parts_depth s ps to h, refl)
depth_as s (ZeroOrMore r) to h = (depth_of r, part_depth s r to h, refl)
depth_as s (OneOrMore r) to h = (depth_of r, part_depth s r to h, refl)
depth_as s (ZeroOrOne r) to h = (depth_of r, part_depth s r to h, refl)

iri_depth : (s : List Triple) (n : Term) → IsIri n → (q : Path) → PathOf s n q → depth_of q ≡ 0
iri_depth s n iri (Predicate p) h = refl
iri_depth s n iri (Inverse r) h = absurd (no_blank_iri n h.1.0 iri)
iri_depth s n iri (Sequence ps) h = absurd (no_blank_iri n h.0 iri)
iri_depth s n iri (Alternative ps) h = absurd (no_blank_iri n h.1.0 iri)
iri_depth s n iri (ZeroOrMore r) h = absurd (no_blank_iri n h.1.0 iri)
iri_depth s n iri (OneOrMore r) h = absurd (no_blank_iri n h.1.0 iri)
iri_depth s n iri (ZeroOrOne r) h = absurd (no_blank_iri n h.1.0 iri)

no_member : (ms : List Term) (m : Term) → ms ≡ [] → Contains ms m → ⊥
no_member ms m e c = let none = subst (λ (xs : List Term). Contains xs m) e c in let within = none.1 in omega arith

module _ (s : List Triple) (places : List WeightedPlace) (are : ArePathPlaces s places) (steps : List Triple) (all : ArePlaceSteps places steps) where
  -- a step leads from the node of a place to one of those to which it refers
  step_place : (n m : Term) → IsJoined steps n m → (p : WeightedPlace) × Contains places p × (p.node ≡ n) × Contains p.to m
  step_place n m h =
      let t : Triple = record { subject = n; predicate = h.0; object = m } in
      let g = (all t).0 h.1 in
      let e = g.2.2 in
      (g.0, g.1, sym (ap (λ (u : Triple). u.subject) e), subst (λ (x : Term). Contains g.0.to x) (sym (ap (λ (u : Triple). u.object) e)) g.2.1)

  place_step : (p : WeightedPlace) (m : Term) → Contains places p → Contains p.to m → IsJoined steps p.node m
  place_step p m c d = (p.node, (all (record { subject = p.node; predicate = p.node; object = m })).1 (p, c, (m, d, refl)))

  shallower : (p : WeightedPlace) (m : Term) (q : Path) → Contains places p → Contains p.to m → PathOf s p.node q → (r : Path) × PathOf s m r × (depth_of r < depth_of q)
  shallower p m q c d path = elim (are.each p c).1 [
    | inl iri ↦ absurd (no_member p.to m iri.2 d)
    | inr other ↦
        let looks = sum_has (LooksBelow s (depth_of q)) p.to (looks_of q) (made_looks s p.node p.to other.2 other.0 q path) m d in
        (looks.1.0, looks.1.1, looks.1.3)
  ]

  chained : (count : ℕ) (n : Term) (q : Path) → HasChain (IsJoined steps) count n → PathOf s n q → count ≤ depth_of q
  chained zero n q h path = omega arith
  chained (suc count) n q h path =
      let at = step_place n h.0 h.1 in
      let less = shallower at.0 h.0 q at.1 at.3 (subst (λ (x : Term). PathOf s x q) (sym at.2) path) in
      let rest : count ≤ depth_of less.0 = chained count h.0 less.0 h.2 less.1 in
      let l : depth_of less.0 < depth_of q = less.2 in
      omega arith

  chain_from : (count : ℕ) (n : Term) (q : Path) → count ≤ depth_of q → MayBePath s n → PathOf s n q → HasChain (IsJoined steps) count n
  chain_from zero n q l object path = tt
  chain_from (suc count) n q l object path =
      let place = are.all n object (q, path) in
      let p = place.0 in
      let here : PathOf s p.node q = subst (λ (x : Term). PathOf s x q) (sym place.2) path in
      elim (are.each p place.1).1 [
        | inl iri ↦ absurd (let none : depth_of q ≡ 0 = iri_depth s p.node iri.0 q here in omega arith)
        | inr other ↦
            let deep = depth_as s q p.to (made_as s p.node p.to other.2 other.0 q here) in
            let m = deep.1 in
            let e : depth_of q ≡ deep.0 + 1 = deep.2 in
            let f : deep.0 ≡ depth_of m.3.0 = m.3.2 in
            (m.0, subst (λ (x : Term). IsJoined steps x m.0) place.2 (place_step p m.0 place.1 m.1), chain_from count m.0 m.3.0 (omega arith) m.2 m.3.1)
      ]

  -- a chain leads from a place's node, and that stands for a path
  first_path : (count : ℕ) (n : Term) → HasChain (IsJoined steps) (suc count) n → (q : Path) × PathOf s n q
  first_path count n h =
      let at = step_place n h.0 h.1 in
      let path = (are.each at.0 at.1).0 in
      (path.0, subst (λ (x : Term). PathOf s x path.0) at.2 path.1)

  deep_by : (levels : ℕ) (n : Term) → MayBePath s n → HasChain (IsJoined steps) (suc levels) n ↔ IsDeep s n levels
  deep_by levels n object = (
    λ h. let q = first_path levels n h in let l : suc levels ≤ depth_of q.0 = chained (suc levels) n q.0 h q.1 in (q.0, q.1, omega arith),
    λ d. let l : levels < depth_of d.0 = d.2 in chain_from (suc levels) n d.0 (omega arith) object d.1,
  )

  pub are_deep_paths : (levels : ℕ) (nodes : List Term) → AreWithChain steps (levels + 1) nodes → AreDeepPaths s levels nodes
  are_deep_paths levels nodes chains n object =
      let with = subst (λ (k : ℕ). AreWithChain steps k nodes) (add-one levels) chains n in
      let by = deep_by levels n object in
      (λ c. by.0 (with.0 c), λ d. with.1 (by.1 d))
