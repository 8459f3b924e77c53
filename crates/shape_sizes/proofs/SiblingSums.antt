-- Sums over lists that are parted, and over an ascending list of which some items are taken out.
use Rattle.std.proofs.Common.{◌≡◌, ℕ, ◌+◌, List, [], ◌∷◌, ◌++◌, refl, sym, ap, subst, arith, inl, inr}
use Rattle.std.specs.Prelude.{◌↔◌}
use Rattle.std.specs.List.{Contains}
use Rattle.std.specs.Cmp.{tied_itself}
use Rattle.std.specs.Ordering.{match_ordering, ordering_reverse}
use Rattle.std.specs.declared.cmp.Ordering.{Ordering}
use Rattle.std.specs.declared.cmp.Ordering.TheVariants.{Less, Equal, Greater}
use Rattle.collections.specs.Ordered.{IsAscending, without_item}
use Rattle.collections.proofs.Ascending.{IsAscending-without_item}
use Rattle.collections.proofs.Members.{below, has_cases, has_equal, has_head, has_tail, without_gone, without_new, without_old}
use Rattle.rdf_model.specs.declared.term.Term.{Term}
use Rattle.rdf_model.specs.Terms.{term_cmp}
use Rattle.rdf_model.specs.Orders.{term_exact, term_total}
use Rattle.reference_totals.specs.Totals.{SumBy}

pub sum_append : (T : Term → ℕ → Type 0) (xs ys : List Term) (j k : ℕ) → SumBy T xs j → SumBy T ys k → SumBy T (xs ++ ys) (j + k)
sum_append T [] ys j k h i = let e : k ≡ j + k = (let f : j ≡ 0 = h in omega arith) in subst (λ m. SumBy T ys m) e i
sum_append T (x ∷ xs) ys j k h i = (h.0, h.1 + k, h.2, sum_append T xs ys h.1 k h.3 i, (let e : j ≡ h.0 + h.1 = h.4 in omega arith))

pub sum_split : (T : Term → ℕ → Type 0) (xs ys : List Term) (k : ℕ) → SumBy T (xs ++ ys) k → (a : ℕ) × (b : ℕ) × SumBy T xs a × SumBy T ys b × (k ≡ a + b)
sum_split T [] ys k h = (0, k, refl, h, omega arith)
sum_split T (x ∷ xs) ys k h =
    let rest = sum_split T xs ys h.1 h.3 in (
      h.0 + rest.0,
      rest.1,
      (h.0, rest.0, h.2, rest.2, refl),
      rest.3,
      (let e : k ≡ h.0 + h.1 = h.4 in let f : h.1 ≡ rest.0 + rest.1 = rest.4 in omega arith),
    )

-- an ascending list without some items
abbrev pub without_all : List Term → List Term → List Term
without_all [] zs = zs
without_all (v ∷ vs) zs = without_all vs (without_item term_cmp v zs)

pub out_ascending : (vs zs : List Term) → IsAscending term_cmp zs → IsAscending term_cmp (without_all vs zs)
out_ascending [] zs a = a
out_ascending (v ∷ vs) zs a = out_ascending vs (without_item term_cmp v zs) (IsAscending-without_item term_total v zs a)

pub out_members : (vs zs : List Term) → IsAscending term_cmp zs → (t : Term) → Contains (without_all vs zs) t ↔ (Contains zs t × (Contains vs t → ⊥))
out_members [] zs a t = (λ c. (c, λ d. absurd (let k = d.1 in omega arith)), λ h. h.0)
out_members (v ∷ vs) zs a t =
    let deeper = out_members vs (without_item term_cmp v zs) (IsAscending-without_item term_total v zs a) t in (
      λ c. let k = deeper.0 c in (
        without_old term_cmp v zs t k.0,
        λ d. elim (has_cases v vs t d) [
          | inl e ↦ without_gone term_cmp term_total term_exact v zs a (subst (λ (w : Term). Contains (without_item term_cmp v zs) w) (sym e) k.0)
          | inr f ↦ k.1 f
        ],
      ),
      λ h. deeper.1 (without_new term_cmp term_total term_exact v zs t h.0 (λ e. h.1 (has_equal v vs t e)), λ d. h.1 (has_tail v vs t d)),
    )

not_both : (x y : Term) → term_cmp x y ≡ Less → term_cmp y x ≡ Less → ⊥
not_both x y p q = let e = term_total.antisymm x y in let k = ap ordering_reverse q in cc (e, k)

tied : (x y : Term) → x ≡ y → term_cmp y x ≡ Equal
tied x y e = subst (λ (w : Term). term_cmp w x ≡ Equal) e (tied_itself term_total x)

not_before : (v z : Term) (zs : List Term) → IsAscending term_cmp (z ∷ zs) → Contains (z ∷ zs) v → term_cmp v z ≡ Less → ⊥
not_before v z zs a c e = elim (has_cases z zs v c) [ inl same ↦ (let k = tied z v same in cc) | inr d ↦ not_both v z e (below term_cmp z zs v a.0 d) ]

not_later : (v w : Term) (vs : List Term) → IsAscending term_cmp (v ∷ vs) → Contains vs w → v ≡ w → ⊥
not_later v w vs a c e =
    let less : term_cmp v w ≡ Less = below term_cmp v vs w a.0 c in
    let same : term_cmp v w ≡ Equal = tied w v (sym e) in
    cc

module _ (T : Term → ℕ → Type 0) where
  swap : (x y : Term) (zs : List Term) (k : ℕ) → SumBy T (x ∷ y ∷ zs) k → SumBy T (y ∷ x ∷ zs) k
  swap x y zs k h =
      let e : k ≡ h.0 + h.1 = h.4 in
      let f : h.1 ≡ h.3.0 + h.3.1 = h.3.4 in
      (h.3.0, h.0 + h.3.1, h.3.2, (h.0, h.3.1, h.2, h.3.3, refl), omega arith)

  inside : (x : Term) (ys zs : List Term) (k : ℕ) → ((j : ℕ) → SumBy T ys j → SumBy T zs j) → SumBy T (x ∷ ys) k → SumBy T (x ∷ zs) k
  inside x ys zs k f h = (h.0, h.1, h.2, f h.1 h.3, h.4)

  take_out : (v : Term) (zs : List Term) → IsAscending term_cmp zs → Contains zs v → (k : ℕ) → SumBy T zs k ↔ SumBy T (v ∷ without_item term_cmp v zs) k
  take_out v [] a c k = absurd (let l = c.1 in omega arith)
  take_out v (z ∷ zs) a c k = elim (term_cmp v z) as (λ (o : Ordering). term_cmp v z ≡ o → SumBy T (z ∷ zs) k ↔ SumBy T (v ∷ match_ordering o (z ∷ zs) zs (z ∷ without_item term_cmp v zs)) k) [
    | Less ↦ λ e. absurd (not_before v z zs a c e)
    | Equal ↦ λ e. let same : v ≡ z = term_exact v z e in (
      λ h. subst (λ (w : Term). SumBy T (w ∷ zs) k) (sym same) h,
      λ h. subst (λ (w : Term). SumBy T (w ∷ zs) k) same h,
    )
    | Greater ↦ λ e. elim (has_cases z zs v c) [
      | inl same ↦ absurd (let f = tied z v same in cc)
      | inr d ↦ let deeper = take_out v zs a.1 d in (
        λ h. swap z v (without_item term_cmp v zs) k (inside z zs (v ∷ without_item term_cmp v zs) k (λ j g. (deeper j).0 g) h),
        λ h. inside z (v ∷ without_item term_cmp v zs) zs k (λ j g. (deeper j).1 g) (swap v z (without_item term_cmp v zs) k h),
      )
    ]
  ] refl

  -- the items that are taken out first
  pub all_out : (vs zs : List Term) → IsAscending term_cmp vs → IsAscending term_cmp zs → ((v : Term) → Contains vs v → Contains zs v) → (k : ℕ) → SumBy T zs k ↔ SumBy T (vs ++ without_all vs zs) k
  all_out [] zs a b each k = (λ h. h, λ h. h)
  all_out (v ∷ vs) zs a b each k =
      let others = without_item term_cmp v zs in
      let first = take_out v zs b (each v (has_head v vs)) k in
      let rest = all_out vs others a.1 (IsAscending-without_item term_total v zs b) (λ w c. without_new term_cmp term_total term_exact v zs w (each w (has_tail v vs w c)) (λ e. not_later v w vs a c e)) in (
        λ h. inside v others (vs ++ without_all vs others) k (λ j g. (rest j).0 g) (first.0 h),
        λ h. first.1 (inside v (vs ++ without_all vs others) others k (λ j g. (rest j).1 g) h),
      )
