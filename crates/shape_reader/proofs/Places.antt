-- The places of terms in an ascending list.
use Rattle.std.proofs.Common.{◌≡◌, ℕ, zero, suc, ◌+◌, ◌<◌, ◌≤◌, List, [], ◌∷◌, ◌++◌, length, get_or, take, Some, refl, sym, ap, subst, arith, inl, inr}
use Rattle.std.specs.Prelude.{◌↔◌, ◌⊎◌, slice_get}
use Rattle.std.specs.List.{Contains}
use Rattle.std.specs.List.Sorted.{IsNonDecreasingBy, IsPartitionPoint}
use Rattle.std.specs.declared.cmp.Ordering.{Ordering}
use Rattle.std.specs.declared.cmp.Ordering.TheVariants.{Less, Equal, Greater}
use Rattle.std.specs.Ordering.{ordering_index}
use Rattle.std.specs.Cmp.{tied_itself}
use Rattle.std.proofs.lemmas.List.{take_all, take_more}
use Rattle.std.proofs.lemmas.List.Elements.{Contains-get_or}
use Rattle.collections.specs.Ordered.{IsAscending}
use Rattle.collections.proofs.Members.{below}
use Rattle.rdf_model.specs.declared.term.Term.{Term}
use Rattle.rdf_model.specs.Terms.{term_cmp}
use Rattle.rdf_model.specs.Orders.{term_total, term_exact}
use Rattle.shape_model.specs.Triples.{IsMember}
use Rattle.shape_syntax.proofs.Items.{get_read, get_within, one_place}
use Rattle.shape_syntax.proofs.Scans.{has_cases}
use Rattle.shape_reader.specs.Parts.{ArePlaces, IsPlace}

most : (o : Ordering) → ordering_index o ≤ 2
most Less = omega arith
most Equal = omega arith
most Greater = omega arith

index_rises : (x a b : Term) → term_cmp a b ≡ Less → ordering_index (term_cmp a x) ≤ ordering_index (term_cmp b x)
index_rises x a b h = elim (term_cmp b x) as (λ (c : Ordering). term_cmp b x ≡ c → ordering_index (term_cmp a x) ≤ ordering_index c) [
  | Less ↦ λ e. let l : ordering_index (term_cmp a x) ≡ 0 = ap ordering_index (term_total.trans a b x h e) in omega arith
  | Equal ↦ λ e. let l : ordering_index (term_cmp a x) ≡ 0 = ap ordering_index (subst (λ (t : Term). term_cmp a t ≡ Less) (term_exact b x e) h) in omega arith
  | Greater ↦ λ e. most (term_cmp a x)
] refl

rises : (x : Term) (xs : List Term) → IsAscending term_cmp xs → IsNonDecreasingBy (λ y. ordering_index (term_cmp y x)) xs
rises x [] a i j d le lt = absurd (omega arith)
rises x (y ∷ ys) a zero zero d le lt = omega arith
rises x (y ∷ ys) a zero (suc j) d le lt = index_rises x y (get_or ys j d) (below term_cmp y ys (get_or ys j d) a.0 (Contains-get_or ys j d (omega arith)))
rises x (y ∷ ys) a (suc i) zero d le lt = absurd (omega arith)
rises x (y ∷ ys) a (suc i) (suc j) d le lt = rises x ys a.1 i j d (omega arith) (omega arith)

get_is : (xs : List Term) (k : ℕ) (x d : Term) → slice_get xs k ≡ Some x → get_or xs k d ≡ x
get_is [] k x d e = cc
get_is (y ∷ ys) zero x d e = let f : y ≡ x = cc in f
get_is (y ∷ ys) (suc k) x d e = get_is ys k x d e

le_or_lt : (i j : ℕ) → (i ≤ j) ⊎ (j < i)
le_or_lt zero j = inl (omega arith)
le_or_lt (suc i) zero = inr (omega arith)
le_or_lt (suc i) (suc j) = elim (le_or_lt i j) [ inl h ↦ inl (omega arith) | inr h ↦ inr (omega arith) ]

-- where the search finds no place, the term has none
pub absent : (x : Term) (xs : List Term) (i : ℕ) → IsAscending term_cmp xs
    → (IsNonDecreasingBy (λ y. ordering_index (term_cmp y x)) xs → IsPartitionPoint (λ y. term_cmp y x ≡ Less) (λ y. term_cmp y x ≡ Greater) xs i)
    → (k : ℕ) → IsPlace xs k x → ⊥
absent x xs i a found k e =
    let p = found (rises x xs a) in
    let within : k < length xs = get_within xs k x e in
    let same : term_cmp (get_or xs k x) x ≡ Equal = subst (λ (t : Term). term_cmp t x ≡ Equal) (sym (get_is xs k x x e)) (tied_itself term_total x) in
    elim (le_or_lt i k) [
      | inl l ↦ let over = p.1 k x l within in cc (same, over)
      | inr l ↦ let under = p.0 k x (omega arith) l in cc (same, under)
    ]

-- where it finds one, it is the place
pub present : (x : Term) (xs : List Term) (i : ℕ) → IsAscending term_cmp xs → i < length xs → term_cmp (get_or xs i x) x ≡ Equal → (n : ℕ) → (Some i ≡ Some n) ↔ IsPlace xs n x
present x xs i a l e n =
    let here : IsPlace xs i x = get_read xs i x l (sym (term_exact (get_or xs i x) x e)) in (
      λ f. let d : i ≡ n = cc in subst (λ (k : ℕ). IsPlace xs k x) d here,
      λ f. ap Some (one_place term_cmp term_total xs x i n a here f),
    )

-- the places of terms in turn
pub places_push : (nodes : List Term) (ps : List ℕ) (ts : List Term) (p : ℕ) (t : Term) → ArePlaces nodes ps ts → IsPlace nodes p t → ArePlaces nodes (ps ++ p ∷ []) (ts ++ t ∷ [])
places_push nodes [] [] p t h e = (e, tt)
places_push nodes [] (u ∷ ts) p t h e = absurd h
places_push nodes (q ∷ ps) [] p t h e = absurd h
places_push nodes (q ∷ ps) (u ∷ ts) p t h e = (h.0, places_push nodes ps ts p t h.1 e)

pub places_more : (nodes : List Term) (ps : List ℕ) (ts : List Term) (i p : ℕ) (t : Term) → i < length ts → t ≡ get_or ts i t → ArePlaces nodes ps (take i ts) → IsPlace nodes p t → ArePlaces nodes (ps ++ p ∷ []) (take (i + 1) ts)
places_more nodes ps ts i p t l e h at =
    subst (λ (us : List Term). ArePlaces nodes (ps ++ p ∷ []) us) (sym (take_more ts i t l))
    (subst (λ (u : Term). ArePlaces nodes (ps ++ p ∷ []) (take i ts ++ u ∷ [])) e (places_push nodes ps (take i ts) p t h at))

pub places_all : (nodes : List Term) (ps : List ℕ) (ts : List Term) (i : ℕ) → length ts ≤ i → ArePlaces nodes ps (take i ts) → ArePlaces nodes ps ts
places_all nodes ps ts i l h = subst (λ (us : List Term). ArePlaces nodes ps us) (take_all i ts l) h

-- each of the terms has one
pub place_among : (nodes : List Term) (ps : List ℕ) (ts : List Term) (t : Term) → ArePlaces nodes ps ts → Contains ts t → (p : ℕ) × IsPlace nodes p t
place_among nodes [] [] t h c = absurd (omega arith)
place_among nodes [] (u ∷ ts) t h c = absurd h
place_among nodes (q ∷ ps) [] t h c = absurd h
place_among nodes (q ∷ ps) (u ∷ ts) t h c = elim (has_cases u ts t c) [
  | inl e ↦ (q, subst (λ (w : Term). IsPlace nodes q w) e h.0)
  | inr d ↦ place_among nodes ps ts t h.1 d
]

-- the places of the terms are one list
pub one_places : (nodes : List Term) → IsAscending term_cmp nodes → (ps qs : List ℕ) (ts : List Term) → ArePlaces nodes ps ts → ArePlaces nodes qs ts → ps ≡ qs
one_places nodes a [] [] [] h k = refl
one_places nodes a [] (q ∷ qs) [] h k = absurd k
one_places nodes a (p ∷ ps) qs [] h k = absurd h
one_places nodes a [] qs (t ∷ ts) h k = absurd h
one_places nodes a (p ∷ ps) [] (t ∷ ts) h k = absurd k
one_places nodes a (p ∷ ps) (q ∷ qs) (t ∷ ts) h k =
    let e : p ≡ q = one_place term_cmp term_total nodes t p q a h.0 k.0 in
    let f : ps ≡ qs = one_places nodes a ps qs ts h.1 k.1 in
    cc (e, f)

-- a list of terms that all have a place has a list of places
pub all_places : (nodes ts : List Term) → ((t : Term) → IsMember ts t → (p : ℕ) × IsPlace nodes p t) → (ps : List ℕ) × ArePlaces nodes ps ts
all_places nodes [] each = ([], tt)
all_places nodes (t ∷ ts) each =
    let p = each t (inl refl) in
    let rest = all_places nodes ts (λ u i. each u (inr i)) in
    (p.0 ∷ rest.0, (p.1, rest.1))
