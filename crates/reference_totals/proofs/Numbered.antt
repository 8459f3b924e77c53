-- Numbers of nodes, and what is noted of a node.
use Rattle.std.proofs.Common.{◌≡◌, ◌∙◌, ℕ, zero, suc, ◌+◌, ◌<◌, ◌≤◌, List, [], ◌∷◌, ◌++◌, length, take, get_or, refl, sym, ap, subst, arith, inl, inr, Bool, true, false, Some, None}
use Rattle.std.specs.Prelude.{◌⊎◌, cond, slice_get}
use Rattle.std.specs.List.{AllZip, Contains}
use Rattle.std.specs.BTreeMap.{BTreeMap}
use Rattle.std.specs.Map.{lookup}
use Rattle.std.specs.Ordering.{is_eq}
use Rattle.std.specs.declared.cmp.Ordering.{Ordering}
use Rattle.std.specs.declared.cmp.Ordering.TheVariants.{Less, Equal, Greater}
use Rattle.std.proofs.lemmas.Bool.{cases_eq}
use Rattle.std.proofs.lemmas.List.{get_or_default, take_more}
use Rattle.std.proofs.lemmas.List.Elements.{Contains-push_cases}
use Rattle.collections.proofs.Members.{has_head, has_tail}
use Rattle.rdf_model.specs.declared.term.Term.{Term}
use Rattle.rdf_model.specs.Terms.{term_cmp}
use Rattle.rdf_model.specs.Orders.{term_exact, term_total}
use Rattle.std.specs.Cmp.{tied_itself}
use Rattle.reference_totals.specs.declared.place.WeightedPlace.{WeightedPlace}
use Rattle.reference_totals.specs.declared.numbers.NumberedPlace.{NumberedPlace}
use Rattle.reference_totals.specs.Totals.{entry}
use Rattle.reference_totals.specs.Numbers.{AreIndices, AreNumbered, IsNumbered, Notes}

-- an item that was read stands in the list
pub got_in : {X : Type 0} → (xs : List X) (i : ℕ) (x : X) → slice_get xs i ≡ Some x → Contains xs x
got_in [] i x e = cc
got_in (y ∷ ys) zero x e = let d : y ≡ x = cc in subst (λ w. Contains (y ∷ ys) w) d (has_head y ys)
got_in (y ∷ ys) (suc i) x e = has_tail y ys x (got_in ys i x e)

pub got_within : {X : Type 0} → (xs : List X) (i : ℕ) (x : X) → slice_get xs i ≡ Some x → i < length xs
got_within [] i x e = cc
got_within (y ∷ ys) zero x e = omega arith
got_within (y ∷ ys) (suc i) x e = let l : i < length ys = got_within ys i x e in omega arith

pub place_of : {X : Type 0} → (xs : List X) (x : X) → Contains xs x → (i : ℕ) × (slice_get xs i ≡ Some x)
place_of [] x c = absurd (omega arith)
place_of (y ∷ ys) x (zero, l, e) = (zero, ap Some e)
place_of (y ∷ ys) x (suc i, l, e) = let k = place_of ys x (i, omega arith, e) in (suc k.0, k.1)

pub cases_more : {X : Type 0} → (xs : List X) (i : ℕ) (y d : X) → i < length xs → y ≡ get_or xs i d → (x : X) → Contains (take (i + 1) xs) x → Contains (take i xs) x ⊎ (y ≡ x)
cases_more xs i y d l e x c =
    elim (Contains-push_cases (take i xs) (get_or xs i d) x (subst (λ ys. Contains ys x) (take_more xs i d l) c)) [ inl k ↦ inl k | inr f ↦ inr (e ∙ f) ]

tied : (o : Ordering) → is_eq o ≡ true → o ≡ Equal
tied Less e = cc
tied Equal e = refl
tied Greater e = cc

pub same_node : (n m : Term) → is_eq (term_cmp n m) ≡ true → n ≡ m
same_node n m e = term_exact n m (tied (term_cmp n m) e)

pub term_itself : (n : Term) → is_eq (term_cmp n n) ≡ true
term_itself n = let k = tied_itself term_total n in ap is_eq k

-- what is noted of a node, and of another
pub noted_cases : (table new : BTreeMap Term ℕ) (n : Term) (v : ℕ) → Notes table n v new → (m : Term) → ((n ≡ m) × (entry new m ≡ Some v)) ⊎ (entry new m ≡ entry table m)
noted_cases table new n v notes m = elim (is_eq (term_cmp n m)) as (λ (b : Bool). is_eq (term_cmp n m) ≡ b → ((n ≡ m) × (entry new m ≡ Some v)) ⊎ (entry new m ≡ entry table m)) [
  | true ↦ λ e. inl (same_node n m e, notes m ∙ ap (λ (b : Bool). cond b (Some v) (entry table m)) e)
  | false ↦ λ e. inr (notes m ∙ ap (λ (b : Bool). cond b (Some v) (entry table m)) e)
] refl

noted_at : (table new : BTreeMap Term ℕ) (n : Term) (v : ℕ) → is_eq (term_cmp n n) ≡ true → Notes table n v new → entry new n ≡ Some v
noted_at table new n v e notes = notes n ∙ ap (λ (b : Bool). cond b (Some v) (entry table n)) e

pub noted_itself : (table new : BTreeMap Term ℕ) (n : Term) (v : ℕ) → Notes table n v new → entry new n ≡ Some v
noted_itself table new n v notes = noted_at table new n v (term_itself n) notes

pub noted_keeps : (table new : BTreeMap Term ℕ) (n : Term) (v : ℕ) → Notes table n v new → (m : Term) (w : ℕ) → entry table m ≡ Some w → (u : ℕ) × (entry new m ≡ Some u)
noted_keeps table new n v notes m w e = elim (noted_cases table new n v notes m) [
  | inl here ↦ (v, here.1)
  | inr other ↦ (w, other ∙ e)
]

pub none_in : (table : BTreeMap Term ℕ) → table.entries ≡ [] → (n : Term) → entry table n ≡ None
none_in table e n = ap (λ es. lookup (λ m. is_eq (term_cmp n m)) es) e

-- a node more has a number
pub indices_more : (places : List WeightedPlace) (numbers new : BTreeMap Term ℕ) (i : ℕ) (p : WeightedPlace) → slice_get places i ≡ Some p → Notes numbers p.node i new → AreIndices places numbers → AreIndices places new
indices_more places numbers new i p got notes before n j e = elim (noted_cases numbers new p.node i notes n) [
  | inl here ↦ let f : Some i ≡ Some j = sym here.1 ∙ e in let g : i ≡ j = cc in (p, subst (λ x. slice_get places x ≡ Some p) g got, here.0)
  | inr other ↦ before n j (sym other ∙ e)
]

-- the nodes of the places from this one on have numbers
abbrev pub HaveNumbersFrom : ℕ → List WeightedPlace → BTreeMap Term ℕ → Type 0
HaveNumbersFrom k places numbers = (i : ℕ) (q : WeightedPlace) → k ≤ i → i < length places → q ≡ get_or places i q → (j : ℕ) × (entry numbers q.node ≡ Some j)

pub numbers_before : (places : List WeightedPlace) (numbers new : BTreeMap Term ℕ) (k l j : ℕ) (p : WeightedPlace) → k < length places → l ≤ k + 1 → p ≡ get_or places k p → Notes numbers p.node j new
    → HaveNumbersFrom l places numbers → HaveNumbersFrom k places new
numbers_before places numbers new k l j p within next is notes before i q low high here = elim (cases_eq i k) [
  | inl same ↦
      let there : get_or places i q ≡ get_or places k p = ap (λ (z : ℕ). get_or places z q) same ∙ get_or_default places k q p within in
      let p_is_q : p ≡ q = is ∙ sym there ∙ sym here in
      (j, subst (λ (x : WeightedPlace). entry new x.node ≡ Some j) p_is_q (noted_itself numbers new p.node j notes))
  | inr other ↦ let h = before i q (omega arith) high here in noted_keeps numbers new p.node j notes q.node h.0 h.1
]

-- a place more is numbered
pub zip_push : {A B : Type 0} → (R : A → B → Type 0) (xs : List A) (ys : List B) (x : A) (y : B) → AllZip R xs ys → R x y → AllZip R (xs ++ x ∷ []) (ys ++ y ∷ [])
zip_push R [] [] x y h r = (r, tt)
zip_push R [] (b ∷ bs) x y h r = absurd h
zip_push R (a ∷ xs) [] x y h r = absurd h
zip_push R (a ∷ xs) (b ∷ bs) x y h r = (h.0, zip_push R xs bs x y h.1 r)

pub zip_left : {A B : Type 0} → (R : A → B → Type 0) (xs : List A) (ys : List B) → AllZip R xs ys → (x : A) → Contains xs x → (y : B) × Contains ys y × R x y
zip_left R [] ys h x c = absurd (omega arith)
zip_left R (a ∷ xs) [] h x c = absurd h
zip_left R (a ∷ xs) (b ∷ bs) h x (zero, l, e) = (b, has_head b bs, subst (λ z. R z b) e h.0)
zip_left R (a ∷ xs) (b ∷ bs) h x (suc i, l, e) = let k = zip_left R xs bs h.1 x (i, omega arith, e) in (k.0, has_tail b bs k.0 k.1, k.2)

pub zip_right : {A B : Type 0} → (R : A → B → Type 0) (xs : List A) (ys : List B) → AllZip R xs ys → (y : B) → Contains ys y → (x : A) × Contains xs x × R x y
zip_right R [] [] h y c = absurd (omega arith)
zip_right R [] (b ∷ bs) h y c = absurd h
zip_right R (a ∷ xs) [] h y c = absurd h
zip_right R (a ∷ xs) (b ∷ bs) h y (zero, l, e) = (a, has_head a xs, subst (λ z. R a z) e h.0)
zip_right R (a ∷ xs) (b ∷ bs) h y (suc i, l, e) = let k = zip_right R xs bs h.1 y (i, omega arith, e) in (k.0, has_tail a xs k.0 k.1, k.2)

pub zip_length : {A B : Type 0} → (R : A → B → Type 0) (xs : List A) (ys : List B) → AllZip R xs ys → length xs ≡ length ys
zip_length R [] [] h = refl
zip_length R [] (b ∷ bs) h = absurd h
zip_length R (a ∷ xs) [] h = absurd h
zip_length R (a ∷ xs) (b ∷ bs) h = ap suc (zip_length R xs bs h.1)

pub zip_next : (places : List WeightedPlace) (numbers : BTreeMap Term ℕ) (i : ℕ) (p d : WeightedPlace) (qs : List NumberedPlace) (q : NumberedPlace) → i < length places → p ≡ get_or places i d
    → IsNumbered numbers p q → AllZip (IsNumbered numbers) (take i places) qs → AllZip (IsNumbered numbers) (take (i + 1) places) (qs ++ q ∷ [])
zip_next places numbers i p d qs q l e one all =
    let one_there = subst (λ (x : WeightedPlace). IsNumbered numbers x q) e one in
    subst (λ (xs : List WeightedPlace). AllZip (IsNumbered numbers) xs (qs ++ q ∷ [])) (sym (take_more places i d l)) (zip_push (IsNumbered numbers) (take i places) qs (get_or places i d) q all one_there)

-- the numbers are below the count of the places
pub numbers_within : (places : List WeightedPlace) (numbers : BTreeMap Term ℕ) (qs : List NumberedPlace) → AreNumbered places numbers qs → (q : NumberedPlace) → Contains qs q → q.node < length qs
numbers_within places numbers qs are q c =
    let k = zip_right (IsNumbered numbers) places qs are.each q c in
    let p = are.indices k.0.node q.node k.2.node in
    let l : q.node < length places = got_within places q.node p.0 p.1 in
    let e = zip_length (IsNumbered numbers) places qs are.each in
    omega arith

one_number : (a b : ℕ) → Some a ≡ Some b → a ≡ b
one_number a b e = cc

-- one node has a number
pub one_node : (places : List WeightedPlace) (numbers : BTreeMap Term ℕ) → AreIndices places numbers → (n m : Term) (i j : ℕ) → entry numbers n ≡ Some i → entry numbers m ≡ Some j → i ≡ j → n ≡ m
one_node places numbers are n m i j e f same =
    let a = are n i e in
    let b = are m j f in
    let g : Some a.0 ≡ Some b.0 = sym a.1 ∙ ap (λ x. slice_get places x) same ∙ b.1 in
    let h : a.0 ≡ b.0 = cc in
    sym a.2 ∙ ap (λ (x : WeightedPlace). x.node) h ∙ b.2
