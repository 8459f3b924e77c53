-- The looks of shapes, as they are counted.
use Rattle.std.proofs.Common.{◌≡◌, ◌∙◌, ℕ, zero, suc, ◌+◌, ◌*◌, ◌<◌, min, List, [], ◌∷◌, ◌++◌, length, take, get_or, Some, None, refl, sym, ap, subst, arith, inl, inr}
use Rattle.std.specs.Prelude.{◌↔◌}
use Rattle.std.specs.BTreeMap.{BTreeMap}
use Rattle.std.proofs.lemmas.List.{take_more}
use Rattle.rdf_model.specs.declared.term.Term.{Term}
use Rattle.rdf_model.specs.declared.triple.Triple.{Triple}
use Rattle.shape_model.specs.Vocabulary.{rdfs_class, true_literal}
use Rattle.shape_model.specs.Instances.{Instance}
use Rattle.shape_syntax.proofs.OnePath.{one_path}
use Rattle.reference_totals.specs.Totals.{SumBy, capped, entry}
use Rattle.reference_totals.proofs.TotalSums.{one_sum, sum_push}
use Rattle.shape_properties.specs.declared.property.ShapeProperty.TheVariants as properties
use Rattle.shape_sizes.specs.Counted.{AreWeights}
use Rattle.shape_sizes.specs.PathLooks.{IsCappedLook, MayBePath}
use Rattle.shape_properties.specs.Properties.{property_iri}
use Rattle.shape_model.specs.Limits.{looks_limit}
use Rattle.shape_sizes.specs.Sizes.{CountsIf, HasOwnLooks, HasPathLooks, HasTargetLooks, HasTooManyLooks, IsLookWeight, WeighsBy, looks_of, values}
use Rattle.shape_properties.specs.Syntax.{HasProperty, IsShape}
use Rattle.shape_sizes.proofs.Weights.{OneWeight, one_weight}

one_path_looks : (s : List Triple) (v : Term) (a b : ℕ) → HasPathLooks s v a → HasPathLooks s v b → a ≡ b
one_path_looks s v a b (inl h) (inl k) = h.2 ∙ ap looks_of (one_path s v k.0 h.0 k.1 h.1) ∙ sym k.2
one_path_looks s v a b (inl h) (inr k) = absurd (k.0 h.0 h.1)
one_path_looks s v a b (inr h) (inl k) = absurd (h.0 k.0 k.1)
one_path_looks s v a b (inr h) (inr k) = h.1 ∙ sym k.1

one_if : (P : Type 0) (n a b : ℕ) → CountsIf P n a → CountsIf P n b → a ≡ b
one_if P n a b (inl h) (inl k) = h.1 ∙ sym k.1
one_if P n a b (inl h) (inr k) = absurd (k.0 h.0)
one_if P n a b (inr h) (inl k) = absurd (h.0 k.0)
one_if P n a b (inr h) (inr k) = h.1 ∙ sym k.1

one_own : (s : List Triple) (n : Term) (a b : ℕ) → HasOwnLooks s n a → HasOwnLooks s n b → a ≡ b
one_own s n a b h k =
    let path : h.0 ≡ k.0 = one_sum (HasPathLooks s) (HasPathLooks s) (values s n properties.Path) h.0 k.0 (one_path_looks s) h.2 k.2 in
    let closed : h.1 ≡ k.1 = one_if (HasProperty s n properties.Closed true_literal) 1 h.1 k.1 h.3 k.3 in
    let e = h.4 in
    let f = k.4 in
    e ∙ ap (λ (x : ℕ). x + 2 * length (values s n properties.Class)
    + length (values s n properties.Equals) + length (values s n properties.Disjoint)
    + length (values s n properties.LessThan) + length (values s n properties.LessThanOrEquals) + h.1) path
    ∙ ap (λ (x : ℕ). k.0 + 2 * length (values s n properties.Class)
    + length (values s n properties.Equals) + length (values s n properties.Disjoint)
    + length (values s n properties.LessThan) + length (values s n properties.LessThanOrEquals) + x) closed ∙ sym f

one_look : (s : List Triple) → OneWeight (IsLookWeight s)
one_look s n a b (inl h) (inl k) = h.1 ∙ sym k.1
one_look s n a b (inl h) (inr k) = absurd (k.0 h.0)
one_look s n a b (inr h) (inl k) = absurd (h.0 k.0)
one_look s n a b (inr h) (inr k) = one_own s n a b h.1 k.1

pub one_capped : (s : List Triple) → OneWeight (IsCappedLook s)
one_capped s n a b h k = h.2 ∙ ap (capped looks_limit) (one_look s n h.0 k.0 h.1 k.1) ∙ sym k.2

one_target : (s : List Triple) (n : Term) (a b : ℕ) → HasTargetLooks s n a → HasTargetLooks s n b → a ≡ b
one_target s n a b h k =
    let implicit : h.0 ≡ k.0 = one_if (Instance s n rdfs_class) 2 h.0 k.0 h.1 k.1 in
    h.2 ∙ ap (λ (x : ℕ). 2 * length (values s n properties.TargetClass) + x
    + length (values s n properties.TargetSubjectsOf) + length (values s n properties.TargetObjectsOf)) implicit ∙ sym k.2

-- numbers that are the same as far as they are counted, whatever is added
abbrev AreAlike : ℕ → ℕ → ℕ → Type 0
AreAlike most a b = (w : ℕ) → capped most (w + a) ≡ capped most (w + b)

alike_both : (most a b c d : ℕ) → AreAlike most a b → AreAlike most c d → AreAlike most (a + c) (b + d)
alike_both most a b c d h k w =
    let first : min (w + a + c) (most + 1) ≡ min (w + a + d) (most + 1) = k (w + a) in
    let second : min (w + d + a) (most + 1) ≡ min (w + d + b) (most + 1) = h (w + d) in
    omega arith

alike_capped : (most a b : ℕ) → a ≡ capped most b → AreAlike most a b
alike_capped most a b e w = let f : a ≡ min b (most + 1) = e in omega arith

alike_sum : (most : ℕ) (T U : Term → ℕ → Type 0) → ((m : Term) (a : ℕ) → T m a → (b : ℕ) × U m b × AreAlike most a b) → (ms : List Term) (j : ℕ) → SumBy T ms j → (k : ℕ) × SumBy U ms k × AreAlike most j k
alike_sum most T U f [] j h = (j, h, λ w. refl)
alike_sum most T U f (m ∷ ms) j h =
    let first = f m h.0 h.2 in
    let rest = alike_sum most T U f ms h.1 h.3 in (
      first.0 + rest.0,
      (first.0, rest.0, first.1, rest.1, refl),
      λ w. ap (λ (x : ℕ). capped most (w + x)) h.4 ∙ alike_both most h.0 first.0 h.1 rest.0 first.2 rest.2 w,
    )

alike_weights : (s : List Triple) (most : ℕ) (V W : Term → ℕ → Type 0) → ((n : Term) (a : ℕ) → V n a → (b : ℕ) × W n b × AreAlike most a b)
    → (d : ℕ) (n : Term) (j : ℕ) → WeighsBy V s d n j → (k : ℕ) × WeighsBy W s d n k × AreAlike most j k
alike_weights s most V W f zero n j h = absurd h
alike_weights s most V W f (suc d) n j h =
    let own = f n h.0 h.3 in
    let sum = alike_sum most (WeighsBy V s d) (WeighsBy W s d) (λ m a t. alike_weights s most V W f d m a t) h.1 h.2 h.5 in (
      own.0 + sum.0,
      (own.0, h.1, sum.0, own.1, h.4, sum.1, refl),
      λ w. ap (λ (x : ℕ). capped most (w + x)) h.6 ∙ alike_both most h.0 own.0 h.2 sum.0 own.2 sum.2 w,
    )

at_zero : (most a b : ℕ) → AreAlike most a b → capped most a ≡ capped most b
at_zero most a b h = let e : min (0 + a) (most + 1) ≡ min (0 + b) (most + 1) = h 0 in omega arith

-- own looks that are counted so far give looks that are counted so far
pub looks_weights : (s : List Triple) (table : BTreeMap Term ℕ) → AreWeights s (IsCappedLook s) looks_limit table → AreWeights s (IsLookWeight s) looks_limit table
looks_weights s table weights = record {
  sound = λ n v may e.
      let j = weights.sound n v may e in
      let k = alike_weights s looks_limit (IsCappedLook s) (IsLookWeight s) (λ m a h. (h.0, h.1, alike_capped looks_limit a h.0 h.2)) j.1.0 n j.0 j.1.1 in
      (k.0, (j.1.0, k.1), j.2 ∙ at_zero looks_limit j.0 k.0 k.2);
  all = λ n k may h.
      let j = alike_weights s looks_limit (IsLookWeight s) (IsCappedLook s)
      (λ m a t. (capped looks_limit a, (a, t, refl), λ w. sym (alike_capped looks_limit (capped looks_limit a) a refl w))) h.0 n k h.1 in
      weights.all n j.0 may (h.0, j.1) ∙ ap Some (sym (at_zero looks_limit k j.0 j.2));
}

-- a value of sh:path may be a path
pub value_may_be : (s : List Triple) (n v : Term) → HasProperty s n properties.Path v → MayBePath s v
value_may_be s n v h = (record { subject = n; predicate = property_iri properties.Path; object = v }, h, inl refl, refl)

-- sums of looks of paths
paths_step : (most a b k j : ℕ) → a ≡ capped most k → b ≡ capped most j → capped most (a + b) ≡ capped most (k + j)
paths_step most a b k j e f =
    let g : a ≡ min k (most + 1) = e in
    let h : b ≡ min j (most + 1) = f in
    omega arith

pub paths_next : (s : List Triple) (vs : List Term) (i : ℕ) (v : Term) (most a b c : ℕ) → i < length vs → v ≡ get_or vs i v
    → (k : ℕ) × SumBy (HasPathLooks s) (take i vs) k × (a ≡ capped most k) → (j : ℕ) × HasPathLooks s v j × (b ≡ capped most j) → c ≡ capped most (a + b)
    → (k : ℕ) × SumBy (HasPathLooks s) (take (i + 1) vs) k × (c ≡ capped most k)
paths_next s vs i v most a b c l e before step f = (
  before.0 + step.0,
  subst (λ (xs : List Term). SumBy (HasPathLooks s) xs (before.0 + step.0)) (ap (λ (w : Term). take i vs ++ w ∷ []) e ∙ sym (take_more vs i v l)) (sum_push (HasPathLooks s) (take i vs) v before.0 step.0 before.1 step.1),
  f ∙ paths_step most a b before.0 step.0 before.2 step.2,
)

pub two_each : (most sum count once twice : ℕ) → once ≡ capped most (sum + count) → twice ≡ capped most (once + count) → twice ≡ capped most (sum + 2 * count)
two_each most sum count once twice e f =
    let g : once ≡ min (sum + count) (most + 1) = e in
    let h : twice ≡ min (once + count) (most + 1) = f in
    omega arith

pub next_each : (most sum count once twice : ℕ) (more : ℕ) → once ≡ capped most (sum + count) → twice ≡ capped most (once + more) → twice ≡ capped most (sum + count + more)
next_each most sum count once twice more e f =
    let g : once ≡ min (sum + count) (most + 1) = e in
    let h : twice ≡ min (once + more) (most + 1) = f in
    omega arith

-- what is over the limit
over : (most v k : ℕ) → v ≡ capped most k → (most < v) ↔ (most < k)
over most v k e = let f : v ≡ min k (most + 1) = e in (λ h. omega arith, λ h. omega arith)

counted_over : (most total k more : ℕ) → total ≡ capped most k → capped most (total + more) ≡ capped most (k + more)
counted_over most total k more e = let f : total ≡ min k (most + 1) = e in omega arith

pub looks_over : (s : List Triple) (n : Term) (table : BTreeMap Term ℕ) (total looks : ℕ) → AreWeights s (IsLookWeight s) looks_limit table → IsShape s n → entry table n ≡ Some total
    → (k : ℕ) × HasTargetLooks s n k × (looks ≡ capped looks_limit (total + k)) → (looks_limit < looks) ↔ HasTooManyLooks s n
looks_over s n table total looks weights may e more =
    let k = weights.sound n total may e in
    let all : looks ≡ capped looks_limit (k.0 + more.0) = more.2 ∙ counted_over looks_limit total k.0 more.0 k.2 in (
      λ h. (k.0 + more.0, (k.0, more.0, k.1, more.1, refl), (over looks_limit looks (k.0 + more.0) all).0 h),
      λ h.
          let results : h.1.0 ≡ k.0 = one_weight s (IsLookWeight s) (one_look s) n h.1.0 k.0 h.1.2 k.1 in
          let targets : h.1.1 ≡ more.0 = one_target s n h.1.1 more.0 h.1.3 more.1 in
          let sum : h.0 ≡ h.1.0 + h.1.1 = h.1.4 in
          let less : looks_limit < h.0 = h.2 in
          (over looks_limit looks (k.0 + more.0) all).1 (omega arith),
    )

pub looks_under : (s : List Triple) (n : Term) (table : BTreeMap Term ℕ) → AreWeights s (IsLookWeight s) looks_limit table → IsShape s n → entry table n ≡ None → HasTooManyLooks s n → ⊥
looks_under s n table weights may e h = let f = weights.all n h.1.0 may h.1.2 in cc
