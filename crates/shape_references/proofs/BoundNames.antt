-- Names of nodes and bundles, and the nodes that were found by them.
use Rattle.std.proofs.Common.{◌≡◌, ◌∙◌, ℕ, zero, suc, ◌+◌, ◌<◌, ◌≤◌, List, [], ◌∷◌, ◌++◌, length, take, get_or, Option, Some, None, refl, sym, ap, subst, append_assoc, arith, inl, inr}
use Rattle.std.specs.Prelude.{◌≢◌, ◌↔◌, ◌⊎◌, MatchOption, slice_get}
use Rattle.std.specs.List.{Contains}
use Rattle.std.specs.List.Sorted.{IsNonDecreasingBy, IsPartitionPoint}
use Rattle.std.specs.Cmp.{nat_cmp_is, tied_itself}
use Rattle.std.specs.Ordering.{nat_cmp, ordering_index}
use Rattle.std.specs.declared.cmp.Ordering.{Ordering}
use Rattle.std.specs.declared.cmp.Ordering.TheVariants.{Less, Equal, Greater}
use Rattle.std.proofs.lemmas.List.{take_all, take_more}
use Rattle.std.proofs.lemmas.List.Elements.{Contains-append_cases, Contains-append_left, Contains-append_right, Contains-get_or}
use Rattle.collections.specs.Ordered.{IsAscending}
use Rattle.collections.proofs.Members.{below}
use Rattle.rdf_model.specs.declared.term.Term.{Term}
use Rattle.rdf_model.specs.declared.term.Term.TheVariants.{Blank}
use Rattle.rdf_model.specs.declared.triple.Triple.{Triple}
use Rattle.rdf_model.specs.Terms.{term_cmp}
use Rattle.rdf_model.specs.Orders.{term_exact, term_total}
use Rattle.shape_syntax.proofs.Items.{get_in, get_read, get_within, one_place, place_in}
use Rattle.shape_references.specs.Bundles.{IsFoundNode, IsInto, IsLeastNode, IsName, IsOutOf, IsPlace}

-- copies behind what was there
pub copied_next : (old now next xs : List Term) (i : ℕ) (x : Term) → i < length xs → x ≡ get_or xs i x → now ≡ old ++ take i xs → next ≡ now ++ x ∷ [] → next ≡ old ++ take (i + 1) xs
copied_next old now next xs i x l e before pushed =
    pushed ∙ ap (λ (zs : List Term). zs ++ x ∷ []) before ∙ append_assoc old (take i xs) (x ∷ [])
    ∙ ap (λ (zs : List Term). old ++ zs) (ap (λ (w : Term). take i xs ++ w ∷ []) e ∙ sym (take_more xs i x l))

pub appended : (old xs next : List Term) → next ≡ old ++ xs → (n : Term) → Contains next n ↔ (Contains old n ⊎ Contains xs n)
appended old xs next e n = (
  λ c. Contains-append_cases old xs n (subst (λ (zs : List Term). Contains zs n) e c),
  λ h. subst (λ (zs : List Term). Contains zs n) (sym e) (elim h [ inl o ↦ Contains-append_left old xs n o | inr x ↦ Contains-append_right old xs n x ]),
)

-- ---- places

most : (o : Ordering) → ordering_index o ≤ 2
most Less = omega arith
most Equal = omega arith
most Greater = omega arith

index_rises : (x a b : Term) → term_cmp a b ≡ Less → ordering_index (term_cmp a x) ≤ ordering_index (term_cmp b x)
index_rises x a b h = elim (term_cmp b x) as (λ (c : Ordering). term_cmp b x ≡ c → ordering_index (term_cmp a x) ≤ ordering_index c) [
  | Less ↦ λ e. let l : ordering_index (term_cmp a x) ≡ 0 = ap ordering_index (term_total.trans a b x h e) in omega arith
  | Equal ↦ λ e. let l : ordering_index (term_cmp a x) ≡ 0 = ap ordering_index (subst (λ (t : Term). term_cmp a t ≡ Less) (term_exact b x e) h) in omega arith
  | Greater ↦ λ e. most (term_cmp a x)
] refl

rises : (x : Term) (xs : List Term) → IsAscending term_cmp xs → IsNonDecreasingBy (λ y. ordering_index (term_cmp y x)) xs
rises x [] a i j d le lt = absurd (omega arith)
rises x (y ∷ ys) a zero zero d le lt = omega arith
rises x (y ∷ ys) a zero (suc j) d le lt = index_rises x y (get_or ys j d) (below term_cmp y ys (get_or ys j d) a.0 (Contains-get_or ys j d (omega arith)))
rises x (y ∷ ys) a (suc i) zero d le lt = absurd (omega arith)
rises x (y ∷ ys) a (suc i) (suc j) d le lt = rises x ys a.1 i j d (omega arith) (omega arith)

get_is : (xs : List Term) (k : ℕ) (x d : Term) → slice_get xs k ≡ Some x → get_or xs k d ≡ x
get_is [] k x d e = cc
get_is (y ∷ ys) zero x d e = let f : y ≡ x = cc in f
get_is (y ∷ ys) (suc k) x d e = get_is ys k x d e

le_or_lt : (i j : ℕ) → (i ≤ j) ⊎ (j < i)
le_or_lt zero j = inl (omega arith)
le_or_lt (suc i) zero = inr (omega arith)
le_or_lt (suc i) (suc j) = elim (le_or_lt i j) [ inl h ↦ inl (omega arith) | inr h ↦ inr (omega arith) ]

-- the search finds no place only where the term has none
pub absent : (x : Term) (xs : List Term) (i : ℕ) → IsAscending term_cmp xs
    → (IsNonDecreasingBy (λ y. ordering_index (term_cmp y x)) xs → IsPartitionPoint (λ y. term_cmp y x ≡ Less) (λ y. term_cmp y x ≡ Greater) xs i)
    → Contains xs x → ⊥
absent x xs i a found c =
    let p = found (rises x xs a) in
    let k = place_in xs x c in
    let within : k.0 < length xs = get_within xs k.0 x k.1 in
    let same : term_cmp (get_or xs k.0 x) x ≡ Equal = subst (λ (t : Term). term_cmp t x ≡ Equal) (sym (get_is xs k.0 x x k.1)) (tied_itself term_total x) in
    elim (le_or_lt i k.0) [
      | inl l ↦ let over = p.1 k.0 x l within in cc (same, over)
      | inr l ↦ let under = p.0 k.0 x (omega arith) l in cc (same, under)
    ]

pub present : (x : Term) (xs : List Term) (i : ℕ) → i < length xs → term_cmp (get_or xs i x) x ≡ Equal → IsPlace xs i x
present x xs i l e = get_read xs i x l (sym (term_exact (get_or xs i x) x e))

-- ---- names

pub one_name : (nodes : List Term) → IsAscending term_cmp nodes → (n x y : Term) → IsName nodes n x → IsName nodes n y → x ≡ y
one_name nodes asc n x y h k = h.2 ∙ ap (λ i. Blank 0 i) (one_place term_cmp term_total nodes n h.0 k.0 asc h.1 k.1) ∙ sym k.2

one_number : (k m i j : ℕ) → Blank k i ≡ Blank m j → (k ≡ m) × (i ≡ j)
one_number k m i j e = (cc, cc)

pub one_place_named : (i j : ℕ) → Blank 1 i ≡ Blank 1 j → i ≡ j
one_place_named i j e = (one_number 1 1 i j e).1

pub one_named : (nodes : List Term) (n m x : Term) → IsName nodes n x → IsName nodes m x → n ≡ m
one_named nodes n m x h k =
    let same : h.0 ≡ k.0 = (one_number 0 0 h.0 k.0 (sym h.2 ∙ k.2)).1 in
    let both : Some n ≡ Some m = sym h.1 ∙ ap (λ i. slice_get nodes i) same ∙ k.1 in
    cc

zero_or_one : (k : ℕ) → k ≡ 0 → k ≡ 1 → ⊥
zero_or_one k e f = omega arith

pub not_bundle : (nodes : List Term) (n x : Term) (i : ℕ) → IsName nodes n x → x ≡ Blank 1 i → ⊥
not_bundle nodes n x i h e = zero_or_one 0 refl (one_number 0 1 h.0 i (sym h.2 ∙ e)).0

pub has_name : (nodes : List Term) (n : Term) → Contains nodes n → (x : Term) × IsName nodes n x
has_name nodes n c = let k = place_in nodes n c in (Blank 0 k.0, (k.0, k.1, refl))

pub named_place : (nodes : List Term) (place : ℕ) (name : Term) (found : Option Term) → name ≡ Blank 0 place → found ≡ slice_get nodes place → (n : Term) → (found ≡ Some n) ↔ IsName nodes n name
named_place nodes place name found e f n = (
  λ h. (place, sym f ∙ h, e),
  λ h. f ∙ ap (λ i. slice_get nodes i) (one_number 0 0 place h.0 (sym e ∙ h.2)).1 ∙ h.1,
)

pub none_named : (nodes : List Term) (name : Term) → ((i : ℕ) → name ≡ Blank 0 i → ⊥) → (n : Term) → (None ≡ Some n) ↔ IsName nodes n name
none_named nodes name none n = (λ h. cc, λ h. absurd (none h.0 h.2))

abbrev into_edge : ℕ → Term → Triple
into_edge i x = record { subject = x; predicate = Blank 1 i; object = Blank 1 i }

abbrev out_edge : ℕ → Term → Triple
out_edge i x = record { subject = Blank 1 i; predicate = Blank 1 i; object = x }

pub one_into : (nodes : List Term) → IsAscending term_cmp nodes → (i : ℕ) (a : Term) (t u : Triple) → IsInto nodes i a t → IsInto nodes i a u → t ≡ u
one_into nodes asc i a t u h k = h.2 ∙ ap (into_edge i) (one_name nodes asc a h.0 k.0 h.1 k.1) ∙ sym k.2

pub one_out_of : (nodes : List Term) → IsAscending term_cmp nodes → (i : ℕ) (b : Term) (t u : Triple) → IsOutOf nodes i b t → IsOutOf nodes i b u → t ≡ u
one_out_of nodes asc i b t u h k = h.2 ∙ ap (out_edge i) (one_name nodes asc b h.0 k.0 h.1 k.1) ∙ sym k.2

-- ---- the node that was found

not_after : (i j : ℕ) → nat_cmp i j ≢ Greater → i ≤ j
not_after i j h = elim (le_or_lt i j) [ inl l ↦ l | inr l ↦ absurd (h (sym (nat_cmp_is i j Greater l))) ]

in_order : (xs : List Term) (i j : ℕ) (x y : Term) → IsAscending term_cmp xs → slice_get xs i ≡ Some x → slice_get xs j ≡ Some y → i ≤ j → term_cmp x y ≢ Greater
in_order [] i j x y a e f l g = cc
in_order (z ∷ zs) zero zero x y a e f l g =
    let d : z ≡ x = cc in
    let b : z ≡ y = cc in
    let same : term_cmp x y ≡ Equal = subst (λ (w : Term). term_cmp w y ≡ Equal) d (subst (λ (w : Term). term_cmp z w ≡ Equal) b (tied_itself term_total z)) in
    cc
in_order (z ∷ zs) zero (suc j) x y a e f l g =
    let d : z ≡ x = cc in
    let less : term_cmp x y ≡ Less = subst (λ (w : Term). term_cmp w y ≡ Less) d (below term_cmp z zs y a.0 (get_in zs j y f)) in
    cc
in_order (z ∷ zs) (suc i) zero x y a e f l g = absurd (omega arith)
in_order (z ∷ zs) (suc i) (suc j) x y a e f l g = in_order zs i j x y a.1 e f (omega arith) g

names_order : (nodes : List Term) → IsAscending term_cmp nodes → (n m x z : Term) → IsName nodes n x → IsName nodes m z → term_cmp x z ≢ Greater → term_cmp n m ≢ Greater
names_order nodes asc n m x z h k after =
    let named : term_cmp (Blank 0 h.0) (Blank 0 k.0) ≢ Greater = subst (λ (w : Term). term_cmp w (Blank 0 k.0) ≢ Greater) h.2 (subst (λ (w : Term). term_cmp x w ≢ Greater) k.2 after) in
    in_order nodes h.0 k.0 n m asc h.1 k.1 (not_after h.0 k.0 named)

bundle_after : (nodes : List Term) (m x z : Term) (i : ℕ) → x ≡ Blank 1 i → IsName nodes m z → term_cmp x z ≡ Greater
bundle_after nodes m x z i e k =
    subst (λ (w : Term). term_cmp w z ≡ Greater) (sym e) (subst (λ (w : Term). term_cmp (Blank 1 i) w ≡ Greater) (sym k.2) refl)

-- Of the least name of which P holds, where P holds of the name of a node just where Q holds of the node.
module _ (nodes : List Term) (asc : IsAscending term_cmp nodes) (P Q : Term → Type 0)
    (both : (n x : Term) → IsName nodes n x → P x ↔ Q n) (named : (n : Term) → Q n → (x : Term) × IsName nodes n x)
    (each : (x : Term) → P x → ((n : Term) × IsName nodes n x) ⊎ ((i : ℕ) × (x ≡ Blank 1 i))) where
  pub found_by : (name found : Option Term) → MatchOption name ((x : Term) → P x → ⊥) (λ x. P x × ((z : Term) → P z → term_cmp x z ≢ Greater)) → IsFoundNode nodes name found
      → MatchOption found ((n : Term) → Q n → ⊥) (λ n. IsLeastNode Q n)
  found_by None None h f = λ n q. let x = named n q in h x.0 ((both n x.0 x.1).1 q)
  found_by None (Some n) h f = cc
  found_by (Some x) None h f = elim (each x h.0) [
    | inl k ↦ absurd (let e = (f k.0).1 k.1 in cc)
    | inr k ↦ λ n q. let z = named n q in h.1 z.0 ((both n z.0 z.1).1 q) (bundle_after nodes n x z.0 k.0 k.1 z.1)
  ]
  found_by (Some x) (Some n) h f =
      let name = (f n).0 refl in
      ((both n x name).0 h.0, λ m q. let z = named m q in names_order nodes asc n m x z.0 name z.1 (h.1 z.0 ((both m z.0 z.1).1 q)))
