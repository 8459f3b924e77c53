-- All assignments of terms: which lists they are, and that they ascend.
use Rattle.std.proofs.Common.{◌≡◌, ◌∙◌, ◌++◌, ℕ, zero, suc, List, [], ◌∷◌, refl, sym, subst, ap, arith, inl, inr, length, map}
use Rattle.std.specs.List.{Contains, flat_map}
use Rattle.std.specs.declared.cmp.Ordering.{Ordering}
use Rattle.std.specs.declared.cmp.Ordering.TheVariants.{Less}
use Rattle.std.specs.Ordering.{ordering_then}
use Rattle.std.specs.Cmp.{tied_itself}
use Rattle.std.proofs.lemmas.List.Elements.{Contains-append_cases, Contains-append_left, Contains-append_right}
use Rattle.collections.specs.Ordered.{AllAbove, IsAscending}
use Rattle.collections.proofs.Members.{below, has_cases, has_equal, has_head, has_tail}
use Rattle.rdf_model.specs.declared.term.Term.{Term}
use Rattle.rdf_model.specs.Orders.{term_total}
use Rattle.rdf_model.specs.Terms.{term_cmp}
use Rattle.bgp_query.specs.TermBindings.{assignments}
use Rattle.term_joins.specs.Orders.{row_cmp}

-- what stands in images
pub in_map : {X Y : Type 0} (f : X → Y) (xs : List X) (x : X) → Contains xs x → Contains (map f xs) (f x)
in_map f [] x c = absurd (omega arith)
in_map f (y ∷ ys) x c = elim (has_cases y ys x c) [ inl e ↦ has_equal (f y) (map f ys) (f x) (ap f e) | inr d ↦ has_tail (f y) (map f ys) (f x) (in_map f ys x d) ]

pub of_map : {X Y : Type 0} (f : X → Y) (xs : List X) (y : Y) → Contains (map f xs) y → (x : X) × Contains xs x × (f x ≡ y)
of_map f [] y c = absurd (omega arith)
of_map {X} f (x ∷ xs) y c = elim (has_cases (f x) (map f xs) y c) [
  | inl e ↦ (x, has_head x xs, e)
  | inr d ↦ let r : (w : X) × Contains xs w × (f w ≡ y) = of_map f xs y d in (r.0, has_tail x xs r.0 r.1, r.2)
]

pub in_flat : {X Y : Type 0} (f : X → List Y) (xs : List X) (x : X) (y : Y) → Contains xs x → Contains (f x) y → Contains (flat_map f xs) y
in_flat f [] x y c d = absurd (omega arith)
in_flat {X} {Y} f (w ∷ ws) x y c d = elim (has_cases w ws x c) [
  | inl e ↦ Contains-append_left (f w) (flat_map f ws) y (subst (λ (v : X). Contains (f v) y) (sym e) d)
  | inr k ↦ Contains-append_right (f w) (flat_map f ws) y (in_flat f ws x y k d)
]

pub of_flat : {X Y : Type 0} (f : X → List Y) (xs : List X) (y : Y) → Contains (flat_map f xs) y → (x : X) × Contains xs x × Contains (f x) y
of_flat f [] y c = absurd (omega arith)
of_flat {X} f (x ∷ xs) y c = elim (Contains-append_cases (f x) (flat_map f xs) y c) [
  | inl d ↦ (x, has_head x xs, d)
  | inr d ↦ let r : (w : X) × Contains xs w × Contains (f w) y = of_flat f xs y d in (r.0, has_tail x xs r.0 r.1, r.2)
]

-- the assignments of n variables are the lists of n of the terms
abbrev pub IsAssigned : ℕ → List Term → List Term → Type 0
IsAssigned n terms xs = (length xs ≡ n) × ((x : Term) → Contains xs x → Contains terms x)

put_assigned : (n : ℕ) (terms : List Term) (x : Term) (ys xs : List Term) → Contains terms x → IsAssigned n terms ys → x ∷ ys ≡ xs → IsAssigned (suc n) terms xs
put_assigned n terms x ys xs c a e = subst (λ (zs : List Term). IsAssigned (suc n) terms zs) e (
  ap suc a.0,
  λ w d. elim (has_cases x ys w d) [ inl k ↦ subst (λ (v : Term). Contains terms v) k c | inr k ↦ a.1 w k ],
)

pub of_assignments : (n : ℕ) (terms xs : List Term) → Contains (assignments n terms) xs → IsAssigned n terms xs
of_assignments zero terms xs c = elim (has_cases [] [] xs c) [
  | inl e ↦ subst (λ (ys : List Term). IsAssigned zero terms ys) e (refl, λ x d. absurd (omega arith))
  | inr d ↦ absurd (omega arith)
]
of_assignments (suc n) terms xs c =
    let one = of_flat (λ (x : Term). map (λ (ys : List Term). x ∷ ys) (assignments n terms)) terms xs c in
    let more = of_map (λ (ys : List Term). one.0 ∷ ys) (assignments n terms) xs one.2 in
    put_assigned n terms one.0 more.0 xs one.1 (of_assignments n terms more.0 more.1) more.2

pub in_assignments : (n : ℕ) (terms xs : List Term) → IsAssigned n terms xs → Contains (assignments n terms) xs
in_assignments zero terms [] a = has_head [] []
in_assignments zero terms (x ∷ xs) a = absurd (let e = a.0 in omega (arith, e))
in_assignments (suc n) terms [] a = absurd (let e = a.0 in omega (arith, e))
in_assignments (suc n) terms (x ∷ xs) a =
    let e : length xs ≡ n = let k = a.0 in omega (arith, k) in
    let rest = in_assignments n terms xs (e, λ w c. a.1 w (has_tail x xs w c)) in
    in_flat (λ (y : Term). map (λ (ys : List Term). y ∷ ys) (assignments n terms)) terms x (x ∷ xs) (a.1 x (has_head x xs)) (in_map (λ (ys : List Term). x ∷ ys) (assignments n terms) xs rest)

-- lists that ascend, one after the other
module _ {X : Type 0} (R : X → X → Ordering) where
  above_all : (x : X) (ys : List X) → ((y : X) → Contains ys y → R x y ≡ Less) → AllAbove R x ys
  above_all x [] f = tt
  above_all x (y ∷ ys) f = (f y (has_head y ys), above_all x ys (λ w c. f w (has_tail y ys w c)))

  ascending_both : (xs ys : List X) → IsAscending R xs → IsAscending R ys → ((x y : X) → Contains xs x → Contains ys y → R x y ≡ Less) → IsAscending R (xs ++ ys)
  ascending_both [] ys a b f = b
  ascending_both (x ∷ xs) ys a b f = (
    above_all x (xs ++ ys) (λ y c. elim (Contains-append_cases xs ys y c) [ inl d ↦ below R x xs y a.0 d | inr d ↦ f x y (has_head x xs) d ]),
    ascending_both xs ys a.1 b (λ w y c d. f w y (has_tail x xs w c) d),
  )

-- rows with the same first term stand as the others do, and a lower first term comes first
same_first : (x : Term) (xs ys : List Term) → row_cmp xs ys ≡ Less → row_cmp (x ∷ xs) (x ∷ ys) ≡ Less
same_first x xs ys l = ap (λ (o : Ordering). ordering_then o (row_cmp xs ys)) (tied_itself term_total x) ∙ l

lower_first : (x y : Term) (xs ys : List Term) → term_cmp x y ≡ Less → row_cmp (x ∷ xs) (y ∷ ys) ≡ Less
lower_first x y xs ys l = ap (λ (o : Ordering). ordering_then o (row_cmp xs ys)) l

above_put : (x : Term) (xs : List Term) (rows : List (List Term)) → AllAbove row_cmp xs rows → AllAbove row_cmp (x ∷ xs) (map (λ (ys : List Term). x ∷ ys) rows)
above_put x xs [] a = tt
above_put x xs (ys ∷ rows) a = (same_first x xs ys a.0, above_put x xs rows a.1)

ascending_put : (x : Term) (rows : List (List Term)) → IsAscending row_cmp rows → IsAscending row_cmp (map (λ (ys : List Term). x ∷ ys) rows)
ascending_put x [] a = tt
ascending_put x (xs ∷ rows) a = (above_put x xs rows a.0, ascending_put x rows a.1)

-- rows with each of the terms before them
module _ (rows : List (List Term)) (ascending : IsAscending row_cmp rows) where
  with_first : (x : Term) (xs : List Term) (v w : List Term) → AllAbove term_cmp x xs → Contains (map (λ (ys : List Term). x ∷ ys) rows) v → Contains (flat_map (λ (y : Term). map (λ (ys : List Term). y ∷ ys) rows) xs) w → row_cmp v w ≡ Less
  with_first x xs v w a c d =
      let first = of_map (λ (ys : List Term). x ∷ ys) rows v c in
      let one = of_flat (λ (y : Term). map (λ (ys : List Term). y ∷ ys) rows) xs w d in
      let second = of_map (λ (ys : List Term). one.0 ∷ ys) rows w one.2 in
      subst (λ (u : List Term). row_cmp u w ≡ Less) first.2 (subst (λ (u : List Term). row_cmp (x ∷ first.0) u ≡ Less) second.2
      (lower_first x one.0 first.0 second.0 (below term_cmp x xs one.0 a one.1)))

  each_first : (ts : List Term) → IsAscending term_cmp ts → IsAscending row_cmp (flat_map (λ (x : Term). map (λ (ys : List Term). x ∷ ys) rows) ts)
  each_first [] a = tt
  each_first (x ∷ xs) a = ascending_both row_cmp (map (λ (ys : List Term). x ∷ ys) rows) (flat_map (λ (y : Term). map (λ (ys : List Term). y ∷ ys) rows) xs)
      (ascending_put x rows ascending) (each_first xs a.1) (λ v w c d. with_first x xs v w a.0 c d)

pub assignments_ascend : (n : ℕ) (terms : List Term) → IsAscending term_cmp terms → IsAscending row_cmp (assignments n terms)
assignments_ascend zero terms a = (tt, tt)
assignments_ascend (suc n) terms a = each_first (assignments n terms) (assignments_ascend n terms a) terms a
