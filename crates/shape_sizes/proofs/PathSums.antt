-- The looks of a path are those of the paths of which it is made.
use Rattle.std.proofs.Common.{◌≡◌, ◌∙◌, ℕ, zero, suc, ◌+◌, ◌<◌, List, [], ◌∷◌, refl, sym, ap, subst, arith, inl, inr}
use Rattle.std.specs.BTreeMap.{BTreeMap}
use Rattle.rdf_model.specs.declared.term.Term.{Term}
use Rattle.rdf_model.specs.declared.triple.Triple.{Triple}
use Rattle.shape_model.specs.Triples.{IsIri}
use Rattle.shape_model.specs.Paths.{Path, Predicate, Inverse, Sequence, Alternative, ZeroOrMore, OneOrMore, ZeroOrOne, Paths, Last, Also}
use Rattle.shape_model.specs.ShapeSyntax.{ListOf, PathOf, PathsOf}
use Rattle.shape_syntax.specs.PathDepth.{deepest_of, depth_of}
use Rattle.shape_syntax.proofs.Lists.{one_list}
use Rattle.shape_syntax.proofs.PathWays.{no_blank_iri}
use Rattle.reference_totals.specs.declared.place.WeightedPlace.{WeightedPlace}
use Rattle.reference_totals.specs.Totals.{AreTotals, HasTotal, SumBy, TotalBy, capped}
use Rattle.reference_totals.proofs.TotalSums.{one_sum, total_from}
use Rattle.shape_sizes.specs.PathLooks.{ArePathLooks, ArePathPlaces, IsMadeOf, MayBePath}
use Rattle.shape_sizes.specs.Sizes.{looks_of, looks_of_all}
use Rattle.shape_sizes.proofs.PathParts.{AreParts, IsMadeAs, IsPart, made_as, member_may_be}
use Rattle.shape_sizes.proofs.Weights.{sum_map_in}

-- the value stands for a path with so many looks, which is less deep than this
abbrev pub LooksBelow : List Triple → ℕ → Term → ℕ → Type 0
LooksBelow s deep m a = (r : Path) × PathOf s m r × (a ≡ looks_of r) × (depth_of r < deep) × MayBePath s m

list_looks : (s : List Triple) (n : Term) (ps : Paths) (deep : ℕ) → deepest_of ps < deep → PathsOf s n ps → (ms : List Term) × ListOf s n ms × SumBy (LooksBelow s deep) ms (looks_of_all ps)
list_looks s n (Last p) deep l h = (h.0 ∷ [], (h.1, h.2, h.3), (looks_of p, 0, (p, h.4, refl, l, member_may_be s n h.0 h.2.0.0), refl, omega arith))
list_looks s n (Also p ps) deep l h =
    let first : depth_of p < deep = omega arith in
    let others : deepest_of ps < deep = omega arith in
    let rest = list_looks s h.1 ps deep others h.4 in
    (h.0 ∷ rest.0, (h.1, h.2, rest.1), (looks_of p, looks_of_all ps, (p, h.3, refl, first, member_may_be s n h.0 h.2.0.0), rest.2, refl))

-- those of one path, and those of a list
part_looks : (s : List Triple) (r : Path) (deep : ℕ) (to : List Term) → depth_of r < deep → IsPart s r to → SumBy (LooksBelow s deep) to (looks_of r)
part_looks s r deep to l h =
    subst (λ (ms : List Term). SumBy (LooksBelow s deep) ms (looks_of r)) (sym h.3) (looks_of r, 0, (r, h.1, refl, l, h.2), refl, omega arith)

parts_looks : (s : List Triple) (ps : Paths) (deep : ℕ) (to : List Term) → deepest_of ps < deep → AreParts s ps to → SumBy (LooksBelow s deep) to (looks_of_all ps)
parts_looks s ps deep to l h =
    let found = list_looks s h.0 ps deep l h.1 in
    subst (λ (ms : List Term). SumBy (LooksBelow s deep) ms (looks_of_all ps)) (one_list s h.0 found.0 to found.1 h.2) found.2

-- the looks of the paths of which a path is made
looks_as : (s : List Triple) (q : Path) (to : List Term) → IsMadeAs s q to → SumBy (LooksBelow s (depth_of q)) to (looks_of q)
looks_as s (Predicate p) to h = absurd h
looks_as s (Inverse r) to h = part_looks s r (depth_of r + 1) to (omega arith) h
looks_as s (Sequence ps) to h = parts_looks s ps (deepest_of ps + 1) to (omega arith) h
looks_as s (Alternative ps) to h = parts_looks s ps (deepest_of ps + 1) to (omega arith) h
looks_as s (ZeroOrMore r) to h = part_looks s r (depth_of r + 1) to (omega arith) h
looks_as s (OneOrMore r) to h = part_looks s r (depth_of r + 1) to (omega arith) h
looks_as s (ZeroOrOne r) to h = part_looks s r (depth_of r + 1) to (omega arith) h

-- of the path of a blank node
pub made_looks : (s : List Triple) (n : Term) (to : List Term) → IsMadeOf s n to → (IsIri n → ⊥) → (q : Path) → PathOf s n q → SumBy (LooksBelow s (depth_of q)) to (looks_of q)
made_looks s n to made blank q h = looks_as s q to (made_as s n to made blank q h)

-- an IRI has one look
iri_looks : (s : List Triple) (n : Term) → IsIri n → (q : Path) → PathOf s n q → looks_of q ≡ 1
iri_looks s n iri (Predicate p) h = refl
iri_looks s n iri (Inverse r) h = absurd (no_blank_iri n h.1.0 iri)
iri_looks s n iri (Sequence ps) h = absurd (no_blank_iri n h.0 iri)
iri_looks s n iri (Alternative ps) h = absurd (no_blank_iri n h.1.0 iri)
iri_looks s n iri (ZeroOrMore r) h = absurd (no_blank_iri n h.1.0 iri)
iri_looks s n iri (OneOrMore r) h = absurd (no_blank_iri n h.1.0 iri)
iri_looks s n iri (ZeroOrOne r) h = absurd (no_blank_iri n h.1.0 iri)

module _ (s : List Triple) (places : List WeightedPlace) (are : ArePathPlaces s places) where
  total_looks : (d : ℕ) (n : Term) (k : ℕ) (q : Path) → TotalBy places d n k → PathOf s n q → k ≡ looks_of q
  total_looks zero n k q h path = absurd h
  total_looks (suc d) n k q h path =
      let p = h.0 in
      let here : PathOf s p.node q = subst (λ (x : Term). PathOf s x q) (sym h.2) path in
      elim (are.each p h.1).1 [
        | inl iri ↦
            let none : h.3.0 ≡ 0 = subst (λ (ms : List Term). SumBy (TotalBy places d) ms h.3.0) iri.2 h.3.1 in
            let own : p.own ≡ 1 = iri.1 in
            let one : looks_of q ≡ 1 = iri_looks s p.node iri.0 q here in
            let e : k ≡ p.own + h.3.0 = h.3.2 in
            omega arith
        | inr other ↦
            let own : p.own ≡ 0 = other.1 in
            let sums : h.3.0 ≡ looks_of q = one_sum (TotalBy places d) (LooksBelow s (depth_of q)) p.to h.3.0 (looks_of q) (λ m a b t u. total_looks d m a u.0 t u.1 ∙ sym u.2) h.3.1 (made_looks s p.node p.to other.2 other.0 q here) in
            let e : k ≡ p.own + h.3.0 = h.3.2 in
            omega arith
      ]

  has_looks : (deep : ℕ) (n : Term) (q : Path) → depth_of q < deep → MayBePath s n → PathOf s n q → HasTotal places n (looks_of q)
  has_looks zero n q l object path = absurd (omega arith)
  has_looks (suc deep) n q l object path =
      let place = are.all n object (q, path) in
      let p = place.0 in
      let here : PathOf s p.node q = subst (λ (x : Term). PathOf s x q) (sym place.2) path in
      subst (λ (x : Term). HasTotal places x (looks_of q)) place.2 (elim (are.each p place.1).1 [
        | inl iri ↦
            let all : HasTotal places p.node (p.own + 0) = total_from places p 0 place.1 (subst (λ (ms : List Term). SumBy (HasTotal places) ms 0) (sym iri.2) refl) in
            let own : p.own ≡ 1 = iri.1 in
            let one : looks_of q ≡ 1 = iri_looks s p.node iri.0 q here in
            let e : p.own + 0 ≡ looks_of q = omega arith in
            subst (λ (k : ℕ). HasTotal places p.node k) e all
        | inr other ↦
            let sums : SumBy (HasTotal places) p.to (looks_of q) = sum_map_in (LooksBelow s (depth_of q)) (HasTotal places) p.to (looks_of q)
            (λ m a c u. subst (λ (k : ℕ). HasTotal places m k) (sym u.2) (let less : depth_of u.0 < deep = (let k = u.3 in omega arith) in has_looks deep m u.0 less u.4 u.1))
            (made_looks s p.node p.to other.2 other.0 q here) in
            let all : HasTotal places p.node (p.own + looks_of q) = total_from places p (looks_of q) place.1 sums in
            let own : p.own ≡ 0 = other.1 in
            let e : p.own + looks_of q ≡ looks_of q = omega arith in
            subst (λ (k : ℕ). HasTotal places p.node k) e all
      ])

  path_at : (d : ℕ) (n : Term) (k : ℕ) → TotalBy places d n k → (q : Path) × PathOf s n q × (k ≡ looks_of q)
  path_at zero n k h = absurd h
  path_at (suc d) n k h =
      let path = (are.each h.0 h.1).0 in
      let here : PathOf s n path.0 = subst (λ (x : Term). PathOf s x path.0) h.2 path.1 in
      (path.0, here, total_looks (suc d) n k path.0 h here)

  pub are_looks : (most : ℕ) (table : BTreeMap Term ℕ) → AreTotals places most table → ArePathLooks s most table
  are_looks most table totals = record {
    sound = λ n v e. let k = totals.sound n v e in let q = path_at k.1.0 n k.0 k.1.1 in (q.0, q.1, k.2 ∙ ap (capped most) q.2);
    all = λ n q object path. totals.all n (looks_of q) (has_looks (suc (depth_of q)) n q (omega arith) object path);
  }
