-- The weights of shapes are the totals of their places.
use Rattle.std.proofs.Common.{◌≡◌, ◌∙◌, ℕ, zero, suc, ◌+◌, ◌<◌, min, List, [], ◌∷◌, ◌++◌, Some, None, refl, sym, ap, subst, arith, inl, inr}
use Rattle.std.specs.Prelude.{◌↔◌}
use Rattle.std.specs.List.{Contains}
use Rattle.std.specs.BTreeMap.{BTreeMap}
use Rattle.std.proofs.lemmas.List.Elements.{Contains-append_left}
use Rattle.collections.specs.Listings.{IsListing}
use Rattle.collections.proofs.Members.{has_head, has_tail}
use Rattle.rdf_model.specs.declared.term.Term.{Term}
use Rattle.rdf_model.specs.declared.triple.Triple.{Triple}
use Rattle.rdf_model.specs.Terms.{term_cmp}
use Rattle.reference_totals.specs.declared.place.WeightedPlace.{WeightedPlace}
use Rattle.reference_totals.specs.Totals.{AreTotals, SumBy, TotalBy, capped, entry}
use Rattle.reference_totals.proofs.TotalSums.{deeper, one_sum, sum_map}
use Rattle.shape_model.proofs.Declarations.{values_law}
use Rattle.shape_references.specs.Bundles.{IsName}
use Rattle.shape_references.specs.Siblings.{IsQualifiedUnder}
use Rattle.shape_references.proofs.BoundNames.{one_named}
use Rattle.shape_properties.specs.declared.property.ShapeProperty.TheVariants as properties
use Rattle.shape_properties.specs.Properties.{property_iri}
use Rattle.shape_properties.specs.Syntax.{IsShape}
use Rattle.shape_sizes.specs.Counted.{AreCountedBy, ArePlaces, AreWeights, IsReferredTo}
use Rattle.shape_sizes.specs.Sizes.{AreReferred, IsDeactivated, Weighs, WeighsBy, values}
use Rattle.shape_sizes.proofs.Referred.{one_referred, referred_taken}
use Rattle.shape_sizes.proofs.SiblingSums.{all_out, sum_append, sum_split, without_all}
use Rattle.shape_sizes.proofs.StandIns.{own_under, referred_by}

-- each node has one own weight
abbrev pub OneWeight : (Term → ℕ → Type 0) → Type 0
OneWeight W = (n : Term) (a b : ℕ) → W n a → W n b → a ≡ b

pub sum_map_in : (T U : Term → ℕ → Type 0) (xs : List Term) (k : ℕ) → ((x : Term) (a : ℕ) → Contains xs x → T x a → U x a) → SumBy T xs k → SumBy U xs k
sum_map_in T U [] k f h = h
sum_map_in T U (x ∷ xs) k f h = (h.0, h.1, f x h.0 (has_head x xs) h.2, sum_map_in T U xs h.1 (λ y a c t. f y a (has_tail x xs y c) t) h.3, h.4)

one_some : (a b : ℕ) → Some a ≡ Some b → a ≡ b
one_some a b e = cc

module _ (s : List Triple) (W : Term → ℕ → Type 0) (one : OneWeight W) where
  one_by : (d e : ℕ) (n : Term) (j k : ℕ) → WeighsBy W s d n j → WeighsBy W s e n k → j ≡ k
  one_by zero e n j k h i = absurd h
  one_by (suc d) zero n j k h i = absurd i
  one_by (suc d) (suc e) n j k h i =
      let own : h.0 ≡ i.0 = one n h.0 i.0 h.3 i.3 in
      let same : h.1 ≡ i.1 = one_referred s n h.1 i.1 h.4 i.4 in
      let sums : h.2 ≡ i.2 = one_sum (WeighsBy W s d) (WeighsBy W s e) i.1 h.2 i.2 (λ m a b t u. one_by d e m a b t u)
      (subst (λ (ms : List Term). SumBy (WeighsBy W s d) ms h.2) same h.5) i.5 in
      let f : j ≡ h.0 + h.2 = h.6 in
      let g : k ≡ i.0 + i.2 = i.6 in
      omega arith

  pub one_weight : (n : Term) (j k : ℕ) → Weighs W s n j → Weighs W s n k → j ≡ k
  one_weight n j k h i = one_by h.0 i.0 n j k h.1 i.1

  module _ (parents : List Term) (places : List WeightedPlace) (are : ArePlaces s W parents places) where
    -- the place that has the name of a parent stands in for what is under it
    stands_in : (p x : Term) (q : WeightedPlace) → IsName parents p x → Contains places q → q.node ≡ x → (q.own ≡ 0) × IsListing term_cmp (IsQualifiedUnder s p) q.to
    stands_in p x q name c e = elim (are.each q c) [
      | inl shape ↦ absurd (are.names.1 q.node p x shape.0 name e)
      | inr made ↦
          let same : made.0 ≡ p = one_named parents made.0 p x (subst (λ (z : Term). IsName parents made.0 z) e made.1) name in
          (made.2, subst (λ (m : Term). IsListing term_cmp (IsQualifiedUnder s m) q.to) same made.3)
    ]

    -- the total of the name is the sum over what is under the parent
    under : (d : ℕ) (p x : Term) (k : ℕ) → IsName parents p x → TotalBy places d x k → (zs : List Term) × IsListing term_cmp (IsQualifiedUnder s p) zs × SumBy (TotalBy places d) zs k
    under zero p x k name h = absurd h
    under (suc d) p x k name h =
        let q = h.0 in
        let made = stands_in p x q name h.1 h.2 in
        let own : q.own ≡ 0 = made.0 in
        let e : k ≡ q.own + h.3.0 = h.3.2 in
        let f : h.3.0 ≡ k = omega arith in
        (q.to, made.1, subst (λ j. SumBy (TotalBy places (suc d)) q.to j) f (sum_map (TotalBy places d) (TotalBy places (suc d)) q.to h.3.0 (λ m a t. deeper places d (suc d) m a (omega arith) t) h.3.1))

    shape_under : (p m : Term) → IsQualifiedUnder s p m → IsShape s m
    shape_under p m h = inr (inr (inr (h.0, (properties.QualifiedValueShape, m, h.2, refl))))

    shape_referred : (n m : Term) (ms : List Term) → AreReferred s n ms → Contains ms m → IsShape s m
    shape_referred n m ms h c = inr (inr (inr (referred_taken s n m ms h c)))

    module _ (d : ℕ) (deep : (m : Term) (a : ℕ) → IsShape s m → TotalBy places d m a → WeighsBy W s d m a) where
      plain_from : (n : Term) (ms : List Term) (k : ℕ) → AreReferred s n ms → SumBy (TotalBy places d) ms k → (zs : List Term) × AreReferred s n zs × SumBy (WeighsBy W s d) zs k
      plain_from n ms k h sums = (ms, h, sum_map_in (TotalBy places d) (WeighsBy W s d) ms k (λ m a c t. deep m a (shape_referred n m ms h c) t) sums)

      named_from : (n : Term) (to : List Term) (k : ℕ) → (IsDeactivated s n → ⊥) → AreCountedBy s parents n to → SumBy (TotalBy places d) to k → (zs : List Term) × AreReferred s n zs × SumBy (WeighsBy W s d) zs k
      named_from n to k active by sums =
          let ms = by.0 in
          let p = by.3.1.0 in
          let only = by.3.1.2 in
          let split = sum_split (TotalBy places d) ms (by.1 ∷ []) k (subst (λ (xs : List Term). SumBy (TotalBy places d) xs k) by.4 sums) in
          let last = split.3 in
          let of = under d p by.1 last.0 by.3.1.1 last.2 in
          let vs = values s n properties.QualifiedValueShape in
          let others = without_all vs of.0 in
          let referred = referred_by s n p ms of.0 active by.2 by.3.0 only of.1 in
          let first = sum_map_in (TotalBy places d) (WeighsBy W s d) ms split.0 (λ m a c t. deep m a (shape_referred n m (ms ++ (vs ++ others)) referred (Contains-append_left ms (vs ++ others) m c)) t) split.2 in
          let listed = sum_map_in (TotalBy places d) (WeighsBy W s d) of.0 last.0 (λ m a c t. deep m a (shape_under p m ((of.1.members m).0 c)) t) of.2 in
          let second = (all_out (WeighsBy W s d) vs of.0 (values_law s n (property_iri properties.QualifiedValueShape)).ascending of.1.ascending (own_under s n p of.0 only of.1) last.0).0 listed in
          let e : k ≡ split.0 + split.1 = split.4 in
          let f : split.1 ≡ last.0 + last.1 = last.4 in
          let g : last.1 ≡ 0 = last.3 in
          let whole : split.0 + last.0 ≡ k = omega arith in
          (ms ++ (vs ++ others), referred, subst (λ j. SumBy (WeighsBy W s d) (ms ++ (vs ++ others)) j) whole (sum_append (WeighsBy W s d) ms (vs ++ others) split.0 last.0 first second))

      sums_from : (n : Term) (to : List Term) (k : ℕ) → IsReferredTo s parents n to → SumBy (TotalBy places d) to k → (zs : List Term) × AreReferred s n zs × SumBy (WeighsBy W s d) zs k
      sums_from n to k h sums = elim h [
        | inl none ↦ plain_from n to k (inl none) sums
        | inr some ↦ elim some.1 [ inl counted ↦ plain_from n to k (inr (some.0, counted)) sums | inr by ↦ named_from n to k some.0 by sums ]
      ]

    weighs_from : (d : ℕ) (n : Term) (k : ℕ) → IsShape s n → TotalBy places d n k → WeighsBy W s d n k
    weighs_from zero n k may h = absurd h
    weighs_from (suc d) n k may h = elim (are.each h.0 h.1) [
      | inl of ↦
          let sums = sums_from d (λ m a shape t. weighs_from d m a shape t) h.0.node h.0.to h.3.0 of.2 h.3.1 in
          (h.0.own, sums.0, h.3.0, subst (λ (m : Term). W m h.0.own) h.2 of.1, subst (λ (m : Term). AreReferred s m sums.0) h.2 sums.1, sums.2, h.3.2)
      | inr made ↦ absurd (are.names.1 n made.0 h.0.node may made.1 (sym h.2))
    ]

    -- a reference by a name is two
    abbrev twice : ℕ → ℕ
    twice zero = zero
    twice (suc d) = suc (suc (twice d))

    module _ (d : ℕ) (deep : (m : Term) (a : ℕ) → IsShape s m → WeighsBy W s d m a → TotalBy places (twice d) m a) where
      further : (ms : List Term) (k : ℕ) → ((m : Term) → Contains ms m → IsShape s m) → SumBy (WeighsBy W s d) ms k → SumBy (TotalBy places (twice d)) ms k
      further ms k shapes sums = sum_map_in (WeighsBy W s d) (TotalBy places (twice d)) ms k (λ m a c t. deep m a (shapes m c) t) sums

      once_more : (ms : List Term) (k : ℕ) → SumBy (TotalBy places (twice d)) ms k → SumBy (TotalBy places (suc (twice d))) ms k
      once_more ms k sums = sum_map (TotalBy places (twice d)) (TotalBy places (suc (twice d))) ms k (λ m a t. deeper places (twice d) (suc (twice d)) m a (omega arith) t) sums

      plain_to : (n : Term) (to ms : List Term) (k : ℕ) → AreReferred s n to → AreReferred s n ms → SumBy (WeighsBy W s d) ms k → SumBy (TotalBy places (suc (twice d))) to k
      plain_to n to ms k h i sums =
          let same : ms ≡ to = one_referred s n ms to i h in
          subst (λ (xs : List Term). SumBy (TotalBy places (suc (twice d))) xs k) same (once_more ms k (further ms k (λ m c. shape_referred n m ms i c) sums))

      named_to : (n : Term) (to ms : List Term) (k : ℕ) → (IsDeactivated s n → ⊥) → AreCountedBy s parents n to → AreReferred s n ms → SumBy (WeighsBy W s d) ms k → SumBy (TotalBy places (suc (twice d))) to k
      named_to n to ms k active by i sums =
          let fixed = by.0 in
          let x = by.1 in
          let p = by.3.1.0 in
          let name = by.3.1.1 in
          let only = by.3.1.2 in
          let q = are.named p x name in
          let made = stands_in p x q.0 name q.1 q.2 in
          let zs = q.0.to in
          let vs = values s n properties.QualifiedValueShape in
          let others = without_all vs zs in
          let referred = referred_by s n p fixed zs active by.2 by.3.0 only made.1 in
          let same : ms ≡ fixed ++ (vs ++ others) = one_referred s n ms (fixed ++ (vs ++ others)) i referred in
          let split = sum_split (WeighsBy W s d) fixed (vs ++ others) k (subst (λ (xs : List Term). SumBy (WeighsBy W s d) xs k) same sums) in
          let listed = (all_out (WeighsBy W s d) vs zs (values_law s n (property_iri properties.QualifiedValueShape)).ascending made.1.ascending (own_under s n p zs only made.1) split.1).1 split.3 in
          let below = further zs split.1 (λ m c. shape_under p m ((made.1.members m).0 c)) listed in
          let own : q.0.own ≡ 0 = made.0 in
          let total : TotalBy places (suc (twice d)) x split.1 = (q.0, q.1, q.2, (split.1, below, omega arith)) in
          let first = once_more fixed split.0 (further fixed split.0 (λ m c. shape_referred n m (fixed ++ (vs ++ others)) referred (Contains-append_left fixed (vs ++ others) m c)) split.2) in
          let whole = sum_append (TotalBy places (suc (twice d))) fixed (x ∷ []) split.0 split.1 first (split.1, 0, total, refl, omega arith) in
          subst (λ (xs : List Term). SumBy (TotalBy places (suc (twice d))) xs k) (sym by.4) (subst (λ j. SumBy (TotalBy places (suc (twice d))) (fixed ++ x ∷ []) j) (sym split.4) whole)

      sums_to : (n : Term) (to ms : List Term) (k : ℕ) → IsReferredTo s parents n to → AreReferred s n ms → SumBy (WeighsBy W s d) ms k → SumBy (TotalBy places (suc (twice d))) to k
      sums_to n to ms k h i sums = elim h [
        | inl none ↦ plain_to n to ms k (inl none) i sums
        | inr some ↦ elim some.1 [ inl counted ↦ plain_to n to ms k (inr (some.0, counted)) i sums | inr by ↦ named_to n to ms k some.0 by i sums ]
      ]

    weighs_to : (d : ℕ) (n : Term) (k : ℕ) → IsShape s n → WeighsBy W s d n k → TotalBy places (twice d) n k
    weighs_to zero n k may h = absurd h
    weighs_to (suc d) n k may h =
        let place = are.all n may in
        let p = place.0 in
        elim (are.each p place.1) [
          | inl of ↦
              let own : h.0 ≡ p.own = one n h.0 p.own h.3 (subst (λ (m : Term). W m p.own) place.2 of.1) in
              let to = subst (λ (m : Term). IsReferredTo s parents m p.to) place.2 of.2 in
              (p, place.1, place.2, (h.2, sums_to d (λ m a shape t. weighs_to d m a shape t) n p.to h.1 h.2 to h.4 h.5, h.6 ∙ ap (λ (w : ℕ). w + h.2) own))
          | inr made ↦ absurd (are.names.1 n made.0 p.node may made.1 (sym place.2))
        ]

    pub are_weights : (most : ℕ) (table : BTreeMap Term ℕ) → AreTotals places most table → AreWeights s W most table
    are_weights most table totals = record {
      sound = λ n v may e. let k = totals.sound n v e in (k.0, (k.1.0, weighs_from k.1.0 n k.0 may k.1.1), k.2);
      all = λ n k may h.
          let v = totals.all n k (twice h.0, weighs_to h.0 n k may h.1) in
          let j = totals.sound n v.0 v.1 in
          let same : j.0 ≡ k = one_weight n j.0 k (j.1.0, weighs_from j.1.0 n j.0 may j.1.1) h in
          v.1 ∙ ap Some (j.2 ∙ ap (capped most) same);
    }

  -- whether a weight is over the limit
  module _ (most : ℕ) (table : BTreeMap Term ℕ) (weights : AreWeights s W most table) (n : Term) (may : IsShape s n) where
    over : (v k : ℕ) → v ≡ min k (most + 1) → (most < v) ↔ (most < k)
    over v k e = (λ h. omega arith, λ h. omega arith)

    pub over_limit : (v : ℕ) → entry table n ≡ Some v → (most < v) ↔ ((k : ℕ) × Weighs W s n k × (most < k))
    over_limit v e = (
      λ h. let k = weights.sound n v may e in (k.0, k.1, (over v k.0 k.2).0 h),
      λ h. let f = weights.all n h.0 may h.1 in (over v h.0 (one_some v (capped most h.0) (sym e ∙ f))).1 h.2,
    )

    pub none_over : entry table n ≡ None → ((k : ℕ) × Weighs W s n k × (most < k)) → ⊥
    none_over e h = let f = weights.all n h.0 may h.1 in cc
