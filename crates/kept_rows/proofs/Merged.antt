-- What is kept once checked pairs are merged.
use Rattle.std.proofs.Common.{◌≡◌, ◌∙◌, ◌<◌, ℕ, List, length, [], ◌∷◌, true, false, refl, sym, subst, ap, inl, inr, arith}
use Rattle.std.specs.Prelude.{◌↔◌, ◌⊎◌, Bool, not, filter, cond, map}
use Rattle.std.specs.List.{Contains}
use Rattle.std.specs.declared.cmp.Ordering.{Ordering}
use Rattle.std.specs.declared.cmp.Ordering.TheVariants.{Less, Equal, Greater}
use Rattle.std.specs.Ordering.{is_eq, nat_cmp, ordering_then}
use Rattle.std.specs.Cmp.{tied_itself}
use Rattle.std.specs.FinMap.{nat_cmp-IsAntisymmetric}
use Rattle.std.proofs.lemmas.Cmp.{nat_cmp_total}
use Rattle.collections.proofs.Members.{has_cases, has_equal, has_head, has_tail, with_cases, with_new, with_old}
use Rattle.collections.specs.Ordered.{with_item}
use Rattle.rdf_model.specs.declared.term.Term.{Term}
use Rattle.rdf_model.specs.Numbers.{IsNumbering, term_at}
use Rattle.collections.specs.Listings.{IsListing}
use Rattle.shape_model.specs.declared.result_row.ResultRow.{ResultRow}
use Rattle.shape_model.specs.Rows.{result_row_cmp}
use Rattle.shape_model.proofs.Listings.{listing_same}
use Rattle.change_laws.specs.Pairs.{PairedRow}
use Rattle.change_laws.specs.Checks.{CheckedPair, HasPair}
use Rattle.change_laws.proofs.Checked.{checked_merge_law}
use Rattle.change_laws.proofs.Merging.{kept_listing_law}
use Rattle.kept_rows.specs.declared.kept_row.KeptRow.{KeptRow}
use Rattle.kept_rows.specs.declared.pair_rows.PairRows.{PairRows}
use Rattle.kept_rows.specs.Kept.{IsFoundBy, IsOfChecked, IsRowOf, Merges, kept_cmp}
use Rattle.kept_rows.specs.Laws.{AreBoundPairs, AreBoundRows, ListingLaw, MergeLaw, paired_row, paired_rows, read_pair, read_pairs}
use Rattle.kept_rows.specs.Merging.{is_of, pair_of, with_checked, with_rows, without_checked, without_pair}
use Rattle.kept_rows.specs.Orders.{kept_exact, kept_total}

-- of a list, what passes a test
in_filter : {X : Type 0} (q : X → Bool) (xs : List X) (x : X) → Contains (filter q xs) x → Contains xs x × (q x ≡ true)
in_filter q [] x c = absurd (omega arith)
in_filter q (y ∷ ys) x c = elim (q y) as (λ b. q y ≡ b → Contains (cond b (y ∷ filter q ys) (filter q ys)) x → Contains (y ∷ ys) x × (q x ≡ true)) [
  | true ↦ λ h d. elim (has_cases y (filter q ys) x d) [
    | inl e ↦ (has_equal y ys x e, subst (λ w. q w ≡ true) e h)
    | inr i ↦ let k = in_filter q ys x i in (has_tail y ys x k.0, k.1)
  ]
  | false ↦ λ h d. let k = in_filter q ys x d in (has_tail y ys x k.0, k.1)
] refl c

to_filter : {X : Type 0} (q : X → Bool) (xs : List X) (x : X) → Contains xs x → q x ≡ true → Contains (filter q xs) x
to_filter q [] x c t = c
to_filter q (y ∷ ys) x c t = elim (q y) as (λ b. q y ≡ b → Contains (cond b (y ∷ filter q ys) (filter q ys)) x) [
  | true ↦ λ h. elim (has_cases y ys x c) [ inl e ↦ has_equal y (filter q ys) x e | inr d ↦ has_tail y (filter q ys) x (to_filter q ys x d t) ]
  | false ↦ λ h. elim (has_cases y ys x c) [
    | inl e ↦ let k : q x ≡ false = subst (λ w. q w ≡ false) e h in cc (k, t)
    | inr d ↦ to_filter q ys x d t
  ]
] refl

in_map : {X Y : Type 0} → (f : X → Y) (xs : List X) (y : Y) → Contains (map f xs) y → (x : X) × Contains xs x × (f x ≡ y)
in_map f [] y c = absurd (omega arith)
in_map f (x ∷ xs) y c = elim (has_cases (f x) (map f xs) y c) [
  | inl e ↦ (x, has_head x xs, e)
  | inr d ↦ let k = in_map f xs y d in (k.0, has_tail x xs k.0 k.1, k.2)
]

to_map : {X Y : Type 0} → (f : X → Y) (xs : List X) (x : X) → Contains xs x → Contains (map f xs) (f x)
to_map f [] x c = absurd (omega arith)
to_map f (y ∷ ys) x c = elim (has_cases y ys x c) [
  | inl e ↦ has_equal (f y) (map f ys) (f x) (ap f e)
  | inr d ↦ has_tail (f y) (map f ys) (f x) (to_map f ys x d)
]

-- a row is one of a pair where both numbers are the same
both_equal : (o p : Ordering) → is_eq (ordering_then o p) ≡ true → (o ≡ Equal) × (p ≡ Equal)
both_equal Less p h = cc
both_equal Equal Less h = cc
both_equal Equal Equal h = (refl, refl)
both_equal Equal Greater h = cc
both_equal Greater p h = cc

of_numbers : (e : ℕ × ℕ) (k : KeptRow) → is_of e k ≡ true → (e.0 ≡ k.shape) × (e.1 ≡ k.focus)
of_numbers e k h =
    let q = both_equal (nat_cmp k.shape e.0) (nat_cmp k.focus e.1) h in
    (sym (nat_cmp-IsAntisymmetric k.shape e.0 q.0), sym (nat_cmp-IsAntisymmetric k.focus e.1 q.1))

to_numbers : (e : ℕ × ℕ) (k : KeptRow) → e.0 ≡ k.shape → e.1 ≡ k.focus → is_of e k ≡ true
to_numbers e k s f =
    let a : nat_cmp k.shape e.0 ≡ Equal = subst (λ (n : ℕ). nat_cmp k.shape n ≡ Equal) (sym s) (tied_itself nat_cmp_total k.shape) in
    let b : nat_cmp k.focus e.1 ≡ Equal = subst (λ (n : ℕ). nat_cmp k.focus n ≡ Equal) (sym f) (tied_itself nat_cmp_total k.focus) in
    ap (λ o. is_eq (ordering_then o (nat_cmp k.focus e.1))) a ∙ ap is_eq b

not_true : (b : Bool) → not b ≡ true → b ≡ true → ⊥
not_true true h e = cc
not_true false h e = cc

to_not : (b : Bool) → (b ≡ true → ⊥) → not b ≡ true
to_not true n = absurd (n refl)
to_not false n = refl

-- without the checked pairs
left_out : (cs : List PairRows) (ks : List KeptRow) (k : KeptRow) → Contains (without_checked cs ks) k ↔ (Contains ks k × (IsOfChecked cs k → ⊥))
left_out [] ks k = (λ c. (c, λ o. absurd (omega (arith, o.1.1))), λ q. q.0)
left_out (d ∷ cs) ks k =
    let more = left_out cs (without_pair (pair_of d) ks) k in (
      λ c.
          let q = more.0 c in
          let kept = in_filter (λ l. not (is_of (pair_of d) l)) ks k q.0 in (
            kept.0,
            λ o. elim (has_cases d cs o.0 o.1) [
              | inl e ↦ not_true (is_of (pair_of d) k) kept.1 (to_numbers (pair_of d) k (ap (λ (w : PairRows). w.shape) e ∙ o.2) (ap (λ (w : PairRows). w.focus) e ∙ o.3))
              | inr i ↦ q.1 (o.0, i, o.2, o.3)
            ],
          ),
      λ q. more.1 (
        to_filter (λ l. not (is_of (pair_of d) l)) ks k q.0 (to_not (is_of (pair_of d) k) (λ t. let n = of_numbers (pair_of d) k t in q.1 (d, has_head d cs, n.0, n.1))),
        λ o. q.1 (o.0, has_tail d cs o.0 o.1, o.2, o.3),
      ),
    )

-- with the rows of a pair
put_with : (e : ℕ × ℕ) (rs : List ResultRow) (ks : List KeptRow) (k : KeptRow) → Contains (with_rows e rs ks) k ↔ (Contains ks k ⊎ ((e.0 ≡ k.shape) × (e.1 ≡ k.focus) × Contains rs k.row))
put_with e [] ks k = (λ c. inl c, elim [ inl c ↦ c | inr q ↦ absurd (omega (arith, q.2.1)) ])
put_with e (r ∷ rs) ks k =
    let new : KeptRow = record { shape = e.0; focus = e.1; row = r } in
    let more = put_with e rs (with_item kept_cmp new ks) k in (
      λ c. elim (more.0 c) [
        | inl i ↦ elim (with_cases kept_cmp new ks k i) [
          | inl p ↦ inr (ap (λ (w : KeptRow). w.shape) p, ap (λ (w : KeptRow). w.focus) p, has_equal r rs k.row (ap (λ (w : KeptRow). w.row) p))
          | inr o ↦ inl o
        ]
        | inr q ↦ inr (q.0, q.1, has_tail r rs k.row q.2)
      ],
      elim [
        | inl c ↦ more.1 (inl (with_old kept_cmp new ks k c))
        | inr q ↦ elim (has_cases r rs k.row q.2) [
          | inl p ↦
              let s = q.0 in
              let f = q.1 in
              let same : new ≡ k = λ i. record { shape = s i; focus = f i; row = p i } in
              more.1 (inl (subst (λ (w : KeptRow). Contains (with_item kept_cmp new ks) w) same (with_new kept_cmp kept_total kept_exact new ks)))
          | inr d ↦ more.1 (inr (q.0, q.1, d))
        ]
      ],
    )

-- with the rows of the checked pairs
found_with : (cs : List PairRows) (ks : List KeptRow) (k : KeptRow) → Contains (with_checked cs ks) k ↔ (Contains ks k ⊎ IsFoundBy cs k)
found_with [] ks k = (λ c. inl c, elim [ inl c ↦ c | inr q ↦ absurd (omega (arith, q.1.1)) ])
found_with (d ∷ cs) ks k =
    let more = found_with cs (with_rows (pair_of d) d.rows ks) k in
    let one = put_with (pair_of d) d.rows ks k in (
      λ c. elim (more.0 c) [
        | inl i ↦ elim (one.0 i) [
          | inl o ↦ inl o
          | inr q ↦ inr (d, has_head d cs, q.0, q.1, q.2)
        ]
        | inr q ↦ inr (q.0, has_tail d cs q.0 q.1, q.2, q.3, q.4)
      ],
      elim [
        | inl c ↦ more.1 (inl (one.1 (inl c)))
        | inr q ↦ elim (has_cases d cs q.0 q.1) [
          | inl e ↦ more.1 (inl (one.1 (inr (ap (λ (w : PairRows). w.shape) e ∙ q.2, ap (λ (w : PairRows). w.focus) e ∙ q.3, subst (λ (w : PairRows). Contains w.rows k.row) (sym e) q.4))))
          | inr i ↦ more.1 (inr (q.0, i, q.2, q.3, q.4))
        ]
      ],
    )

pub merged : (cs : List PairRows) (ks : List KeptRow) → Merges ks cs (with_checked cs (without_checked cs ks))
merged cs ks k =
    let found = found_with cs (without_checked cs ks) k in
    let left = left_out cs ks k in (
      λ c. elim (found.0 c) [ inl i ↦ inl (left.0 i) | inr q ↦ inr q ],
      elim [ inl q ↦ found.1 (inl (left.1 q)) | inr q ↦ found.1 (inr q) ],
    )

-- the results alone, sorted
pub listed : (ks : List KeptRow) (rows sorted : List ResultRow) → rows ≡ map (λ (k : KeptRow). k.row) ks → IsListing result_row_cmp (Contains rows) sorted → IsListing result_row_cmp (IsRowOf ks) sorted
listed ks rows sorted e l = listing_same result_row_cmp (Contains rows) (IsRowOf ks) (λ r. (
  λ c. in_map (λ (k : KeptRow). k.row) ks r (subst (λ (rs : List ResultRow). Contains rs r) e c),
  λ i. subst (λ (rs : List ResultRow). Contains rs r) (sym e) (subst (λ (w : ResultRow). Contains (map (λ (k : KeptRow). k.row) ks) w) i.2 (to_map (λ (k : KeptRow). k.row) ks i.0 i.1)),
)) sorted l

module _ (terms : List Term) (numbering : IsNumbering terms) (old new : List KeptRow) (pairs : List PairRows) (rows : AreBoundRows terms old) (bound : AreBoundPairs terms pairs) (merges : Merges old pairs new) where
  -- a kept row's pair is among the checked ones by number where it is by terms
  of_terms : (k : KeptRow) → Contains old k → HasPair (read_pairs terms pairs) (term_at terms k.shape) (term_at terms k.focus) → IsOfChecked pairs k
  of_terms k i (p, there, s, f) =
      let from = in_map (read_pair terms) pairs p there in
      let own = bound from.0 from.1 in
      let at = rows k i in
      let shape : term_at terms from.0.shape ≡ term_at terms k.shape = ap (λ (w : CheckedPair). w.shape) from.2 ∙ s in
      let focus : term_at terms from.0.focus ≡ term_at terms k.focus = ap (λ (w : CheckedPair). w.focus) from.2 ∙ f in
      (from.0, from.1, numbering from.0.shape k.shape own.0 at.0 shape, numbering from.0.focus k.focus own.1 at.1 focus)

  to_terms : (k : KeptRow) → IsOfChecked pairs k → HasPair (read_pairs terms pairs) (term_at terms k.shape) (term_at terms k.focus)
  to_terms k (c, there, s, f) = (read_pair terms c, to_map (read_pair terms) pairs c there, ap (term_at terms) s, ap (term_at terms) f)

  abbrev pub Found : PairedRow → Type 0
  Found p = (c : CheckedPair) × Contains (read_pairs terms pairs) c × (c.shape ≡ p.shape) × (c.focus ≡ p.focus) × Contains c.rows p.row

  pub read_merged : (p : PairedRow) → Contains (paired_rows terms new) p ↔ ((Contains (paired_rows terms old) p × (HasPair (read_pairs terms pairs) p.shape p.focus → ⊥)) ⊎ Found p)
  read_merged p = (
    λ c.
        let from = in_map (paired_row terms) new p c in
        subst (λ (w : PairedRow). (Contains (paired_rows terms old) w × (HasPair (read_pairs terms pairs) w.shape w.focus → ⊥)) ⊎ Found w) from.2 (elim ((merges from.0).0 from.1) [
          | inl q ↦ inl (to_map (paired_row terms) old from.0 q.0, λ h. q.1 (of_terms from.0 q.0 h))
          | inr q ↦ inr (read_pair terms q.0, to_map (read_pair terms) pairs q.0 q.1, ap (term_at terms) q.2, ap (term_at terms) q.3, q.4)
        ]),
    elim [
      | inl q ↦
          let from = in_map (paired_row terms) old p q.0 in
          let never : IsOfChecked pairs from.0 → ⊥ = λ o. q.1 (subst (λ (w : PairedRow). HasPair (read_pairs terms pairs) w.shape w.focus) from.2 (to_terms from.0 o)) in
          subst (λ (w : PairedRow). Contains (paired_rows terms new) w) from.2 (to_map (paired_row terms) new from.0 ((merges from.0).1 (inl (from.1, never))))
      | inr q ↦
          let from = in_map (read_pair terms) pairs q.0 q.1 in
          let k : KeptRow = record { shape = from.0.shape; focus = from.0.focus; row = p.row } in
          let there : Contains from.0.rows p.row = subst (λ (w : CheckedPair). Contains w.rows p.row) (sym from.2) q.4 in
          let kept : Contains new k = (merges k).1 (inr (from.0, from.1, refl, refl, there)) in
          let s : term_at terms from.0.shape ≡ p.shape = ap (λ (w : CheckedPair). w.shape) from.2 ∙ q.2 in
          let f : term_at terms from.0.focus ≡ p.focus = ap (λ (w : CheckedPair). w.focus) from.2 ∙ q.3 in
          let same : paired_row terms k ≡ p = λ i. record { shape = s i; focus = f i; row = p.row } in
          subst (λ (w : PairedRow). Contains (paired_rows terms new) w) same (to_map (paired_row terms) new k kept)
    ],
  )

  pub bound_merged : AreBoundRows terms new
  bound_merged k c = elim ((merges k).0 c) [
    | inl q ↦ rows k q.0
    | inr q ↦
        let own = bound q.0 q.1 in
        (subst (λ (n : ℕ). n < length terms) q.2 own.0, subst (λ (n : ℕ). n < length terms) q.3 own.1)
  ]

pub merge_law : MergeLaw
merge_law terms g s net old new pairs numbering keeps checks merges = record {
  bound = bound_merged terms numbering old new pairs keeps.bound checks.bound merges;
  results =
      checked_merge_law g s net (read_pairs terms pairs) (paired_rows terms old) (paired_rows terms new) checks.checked keeps.results
      (read_merged terms numbering old new pairs keeps.bound checks.bound merges);
}

pub listing_law : ListingLaw
listing_law terms g s kept rows keeps l =
    kept_listing_law g s (paired_rows terms kept) rows keeps.results (listing_same result_row_cmp (IsRowOf kept) (λ r. (k : PairedRow) × Contains (paired_rows terms kept) k × (k.row ≡ r)) (λ r. (
      λ i. (paired_row terms i.0, to_map (paired_row terms) kept i.0 i.1, i.2),
      λ i. let from = in_map (paired_row terms) kept i.0 i.1 in (from.0, from.1, ap (λ (w : PairedRow). w.row) from.2 ∙ i.2),
    )) rows l)
