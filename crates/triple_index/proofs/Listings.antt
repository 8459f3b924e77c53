-- What the keys that begin alike list.
use Rattle.std.proofs.Common.{◌≡◌, ◌∙◌, ℕ, Bool, List, [], ◌∷◌, true, false, refl, sym, subst, ap, arith, inl, inr}
use Rattle.std.specs.Prelude.{◌↔◌, ◌||◌, filter, cond, map}
use Rattle.std.specs.List.{Contains}
use Rattle.std.specs.declared.cmp.Ordering.{Ordering}
use Rattle.std.specs.declared.cmp.Ordering.TheVariants.{Less, Equal, Greater}
use Rattle.std.specs.Ordering.{nat_cmp, ordering_then, is_eq}
use Rattle.std.specs.Cmp.{tied_itself}
use Rattle.std.specs.FinMap.{nat_cmp-IsAntisymmetric}
use Rattle.std.proofs.lemmas.Cmp.{nat_cmp_total}
use Rattle.collections.specs.Ordered.{AllAbove, IsAscending, has_item}
use Rattle.collections.specs.Listings.{IsListing}
use Rattle.collections.specs.Pairs.{pair_cmp}
use Rattle.collections.proofs.Members.{has_cases, has_equal, has_tail}
use Rattle.rdf_model.specs.declared.ids.Ids.{Ids}
use Rattle.triple_index.specs.declared.key.Key.{Key}
use Rattle.triple_index.specs.declared.prefix.Prefix.{Prefix}
use Rattle.triple_index.specs.declared.prefix.Prefix.TheVariants.{One, Two}
use Rattle.triple_index.specs.Keys.{key_cmp, key_of, by_subject, from_subject, ids_of}
use Rattle.triple_index.specs.Orders.{key_total, key_exact}
use Rattle.triple_index.specs.Patterns.{begins_with, prefix_cmp}

of_eq : (c : Ordering) → is_eq c ≡ true → c ≡ Equal
of_eq Less e = cc
of_eq Equal e = refl
of_eq Greater e = cc

both_equal : (a b : Ordering) → ordering_then a b ≡ Equal → (a ≡ Equal) × (b ≡ Equal)
both_equal Less b h = cc
both_equal Equal b h = (refl, h)
both_equal Greater b h = cc

-- the keys that begin so, each by what follows
module _ {Y : Type 0} (p : Prefix) (S : Y → Y → Ordering) (f : Key → Y) (back : Y → Key)
    (inside : (k : Key) → begins_with p k ≡ true → k ≡ back (f k)) (asked : (y : Y) → begins_with p (back y) ≡ true) (undo : (y : Y) → f (back y) ≡ y)
    (order : (k l : Key) → begins_with p k ≡ true → begins_with p l ≡ true → key_cmp k l ≡ Less → S (f k) (f l) ≡ Less) where
  above : (k : Key) (ks : List Key) → begins_with p k ≡ true → AllAbove key_cmp k ks → AllAbove S (f k) (map f (filter (begins_with p) ks))
  above k [] e a = tt
  above k (l ∷ ks) e a = elim (begins_with p l) as (λ b. begins_with p l ≡ b → AllAbove S (f k) (map f (cond b (l ∷ filter (begins_with p) ks) (filter (begins_with p) ks)))) [
    | true ↦ λ h. (order k l e h a.0, above k ks e a.1)
    | false ↦ λ h. above k ks e a.1
  ] refl

  rises : (ks : List Key) → IsAscending key_cmp ks → IsAscending S (map f (filter (begins_with p) ks))
  rises [] a = tt
  rises (k ∷ ks) a = elim (begins_with p k) as (λ b. begins_with p k ≡ b → IsAscending S (map f (cond b (k ∷ filter (begins_with p) ks) (filter (begins_with p) ks)))) [
    | true ↦ λ h. (above k ks h a.0, rises ks a.1)
    | false ↦ λ h. rises ks a.1
  ] refl

  stood : (ks : List Key) (y : Y) → Contains (map f (filter (begins_with p) ks)) y → Contains ks (back y)
  stood [] y c = absurd (omega arith)
  stood (k ∷ ks) y c = elim (begins_with p k) as (λ b. begins_with p k ≡ b → Contains (map f (cond b (k ∷ filter (begins_with p) ks) (filter (begins_with p) ks))) y → Contains (k ∷ ks) (back y)) [
    | true ↦ λ h d. elim (has_cases (f k) (map f (filter (begins_with p) ks)) y d) [ inl e ↦ has_equal k ks (back y) (inside k h ∙ ap back e) | inr d' ↦ has_tail k ks (back y) (stood ks y d') ]
    | false ↦ λ h d. has_tail k ks (back y) (stood ks y d)
  ] refl c

  stands : (ks : List Key) (y : Y) → Contains ks (back y) → Contains (map f (filter (begins_with p) ks)) y
  stands [] y c = absurd (omega arith)
  stands (k ∷ ks) y c = elim (begins_with p k) as (λ b. begins_with p k ≡ b → Contains (map f (cond b (k ∷ filter (begins_with p) ks) (filter (begins_with p) ks))) y) [
    | true ↦ λ h. elim (has_cases k ks (back y) c) [ inl e ↦ has_equal (f k) (map f (filter (begins_with p) ks)) y (ap f e ∙ undo y) | inr d ↦ has_tail (f k) (map f (filter (begins_with p) ks)) y (stands ks y d) ]
    | false ↦ λ h. elim (has_cases k ks (back y) c) [ inl e ↦ absurd (let a = asked y in let g : begins_with p k ≡ true = ap (begins_with p) e ∙ a in cc (g, h)) | inr d ↦ stands ks y d ]
  ] refl

  listed : (ks : List Key) → IsAscending key_cmp ks → IsListing S (λ y. Contains ks (back y)) (map f (filter (begins_with p) ks))
  listed ks a = record { ascending = rises ks a; members = λ y. (stood ks y, stands ks y) }

tied : (x : ℕ) → nat_cmp x x ≡ Equal
tied x = tied_itself nat_cmp_total x

two_parts : (x y : ℕ) (k : Key) → begins_with (Two x y) k ≡ true → (k.first ≡ x) × (k.second ≡ y)
two_parts x y k e =
    let q = both_equal (nat_cmp k.first x) (nat_cmp k.second y) (of_eq (prefix_cmp (Two x y) k) e) in
    (nat_cmp-IsAntisymmetric k.first x q.0, nat_cmp-IsAntisymmetric k.second y q.1)

one_part : (x : ℕ) (k : Key) → begins_with (One x) k ≡ true → k.first ≡ x
one_part x k e = nat_cmp-IsAntisymmetric k.first x (of_eq (nat_cmp k.first x) e)

same_first : (k l : Key) (x : ℕ) → k.first ≡ x → l.first ≡ x → nat_cmp k.first l.first ≡ Equal
same_first k l x a b = subst (λ (n : ℕ). nat_cmp n l.first ≡ Equal) (sym a) (subst (λ (n : ℕ). nat_cmp x n ≡ Equal) (sym b) (tied x))

same_second : (k l : Key) (y : ℕ) → k.second ≡ y → l.second ≡ y → nat_cmp k.second l.second ≡ Equal
same_second k l y a b = subst (λ (n : ℕ). nat_cmp n l.second ≡ Equal) (sym a) (subst (λ (n : ℕ). nat_cmp y n ≡ Equal) (sym b) (tied y))

-- the last numbers after two
pub thirds_listed : (x y : ℕ) (ks : List Key) → IsAscending key_cmp ks → IsListing nat_cmp (λ n. Contains ks (key_of x y n)) (map (λ (k : Key). k.third) (filter (begins_with (Two x y)) ks))
thirds_listed x y ks a = listed (Two x y) nat_cmp (λ (k : Key). k.third) (key_of x y)
    (λ k e. let q = two_parts x y k e in λ i. record { first = q.0 i; second = q.1 i; third = k.third })
    (λ n. ap is_eq (ap (λ c. ordering_then c (nat_cmp y y)) (tied x) ∙ tied y))
    (λ n. refl)
    (λ k l e h less. let q = two_parts x y k e in let r = two_parts x y l h in
    sym (ap (λ c. ordering_then (ordering_then c (nat_cmp k.second l.second)) (nat_cmp k.third l.third)) (same_first k l x q.0 r.0) ∙ ap (λ c. ordering_then c (nat_cmp k.third l.third)) (same_second k l y q.1 r.1)) ∙ less)
    ks a

-- the last two numbers after one
pub pairs_listed : (x : ℕ) (ks : List Key) → IsAscending key_cmp ks → IsListing pair_cmp (λ e. Contains ks (key_of x e.0 e.1)) (map (λ (k : Key). (k.second, k.third)) (filter (begins_with (One x)) ks))
pairs_listed x ks a = listed (One x) pair_cmp (λ (k : Key). (k.second, k.third)) (λ e. key_of x e.0 e.1)
    (λ k e. let q = one_part x k e in λ i. record { first = q i; second = k.second; third = k.third })
    (λ e. ap is_eq (tied x))
    (λ e. refl)
    (λ k l e h less. let q = one_part x k e in let r = one_part x l h in
    sym (ap (λ c. ordering_then (ordering_then c (nat_cmp k.second l.second)) (nat_cmp k.third l.third)) (same_first k l x q r)) ∙ less)
    ks a

-- a triple and its key stand alike
pub ids_stood : (ks : List Key) (t : Ids) → Contains (ids_of ks) t → Contains ks (by_subject t)
ids_stood [] t c = absurd (omega arith)
ids_stood (k ∷ ks) t c = elim (has_cases (from_subject k) (ids_of ks) t c) [ inl e ↦ has_equal k ks (by_subject t) (ap by_subject e) | inr d ↦ has_tail k ks (by_subject t) (ids_stood ks t d) ]

pub ids_stand : (ks : List Key) (t : Ids) → Contains ks (by_subject t) → Contains (ids_of ks) t
ids_stand [] t c = absurd (omega arith)
ids_stand (k ∷ ks) t c = elim (has_cases k ks (by_subject t) c) [ inl e ↦ has_equal (from_subject k) (ids_of ks) t (ap from_subject e) | inr d ↦ has_tail (from_subject k) (ids_of ks) t (ids_stand ks t d) ]

-- a key that is found stands there
pub stands_found : (x : Key) (ks : List Key) → has_item key_cmp x ks ≡ true → Contains ks x
stands_found x [] e = cc
stands_found x (k ∷ ks) e = elim (key_cmp k x) as (λ c. key_cmp k x ≡ c → (is_eq c || has_item key_cmp x ks) ≡ true → Contains (k ∷ ks) x) [
  | Less ↦ λ h d. has_tail k ks x (stands_found x ks d)
  | Equal ↦ λ h d. has_equal k ks x (key_exact k x h)
  | Greater ↦ λ h d. has_tail k ks x (stands_found x ks d)
] refl e

or_true : (b : Bool) → (b || true) ≡ true
or_true true = refl
or_true false = refl

pub found_stands : (x : Key) (ks : List Key) → Contains ks x → has_item key_cmp x ks ≡ true
found_stands x [] c = absurd (omega arith)
found_stands x (k ∷ ks) c = elim (has_cases k ks x c) [
  | inl e ↦ ap (λ o. is_eq o || has_item key_cmp x ks) (subst (λ (w : Key). key_cmp w x ≡ Equal) (sym e) (tied_itself key_total x))
  | inr d ↦ ap (λ b. is_eq (key_cmp k x) || b) (found_stands x ks d) ∙ or_true (is_eq (key_cmp k x))
]

-- a listing of what holds just where something else does
pub listing_as : {Y : Type 0} {S : Y → Y → Ordering} {P : Y → Type 0} (Q : Y → Type 0) {ys : List Y} → ((y : Y) → P y ↔ Q y) → IsListing S P ys → IsListing S Q ys
listing_as Q e l = record { ascending = l.ascending; members = λ y. (λ c. (e y).0 ((l.members y).0 c), λ q. (l.members y).1 ((e y).1 q)) }
