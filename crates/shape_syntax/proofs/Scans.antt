-- What a loop over a list knows of the items that it has passed.
use Rattle.std.proofs.Common.{◌≡◌, ℕ, ◌+◌, ◌<◌, ◌≤◌, List, [], ◌∷◌, ◌++◌, length, take, get_or, refl, sym, subst, ap, arith, inl, inr, ◌∙◌}
use Rattle.std.specs.Prelude.{◌⊎◌, map}
use Rattle.std.specs.List.{Contains}
use Rattle.std.proofs.lemmas.List.{take_more, take_all}
use Rattle.std.proofs.lemmas.List.Elements.{Contains-append_cases, Contains-append_right, Contains-push_cases, Contains-get_or}
use Rattle.rdf_model.specs.declared.term.Term.{Term}
use Rattle.shape_model.specs.Triples.{IsMember}

pub has_cases : {X : Type 0} → (y : X) (ys : List X) (x : X) → Contains (y ∷ ys) x → (y ≡ x) ⊎ Contains ys x
has_cases y ys x c = elim (Contains-append_cases (y ∷ []) ys x c) [
  | inl d ↦ elim (Contains-push_cases [] y x d) [ inl e ↦ absurd (omega arith) | inr e ↦ inl e ]
  | inr d ↦ inr d
]

-- an item that was read stands in the list
pub read_in : {X : Type 0} → (xs : List X) (i : ℕ) (x : X) → i < length xs → x ≡ get_or xs i x → Contains xs x
read_in xs i x l e = subst (λ w. Contains xs w) (sym e) (Contains-get_or xs i x l)

-- none of no items
pub none_yet : {X : Type 0} → (P : X → Type 0) (xs : List X) → (x : X) → Contains (take 0 xs) x → P x → ⊥
none_yet P xs x c p = absurd (omega arith)

-- the list with one item more
pub cases_more : {X : Type 0} → (xs : List X) (i : ℕ) (y : X) → i < length xs → y ≡ get_or xs i y → (x : X) → Contains (take (i + 1) xs) x → Contains (take i xs) x ⊎ (y ≡ x)
cases_more xs i y l e x c =
    elim (Contains-push_cases (take i xs) (get_or xs i y) x (subst (λ ys. Contains ys x) (take_more xs i y l) c)) [ inl d ↦ inl d | inr f ↦ inr (e ∙ f) ]

pub none_more : {X : Type 0} → (P : X → Type 0) (xs : List X) (i : ℕ) (y : X) → i < length xs → y ≡ get_or xs i y → ((x : X) → Contains (take i xs) x → P x → ⊥) → (P y → ⊥) → (x : X) → Contains (take (i + 1) xs) x → P x → ⊥
none_more P xs i y l e before here x c p = elim (cases_more xs i y l e x c) [ inl d ↦ before x d p | inr f ↦ here (subst P (sym f) p) ]

pub in_all : {X : Type 0} → (xs : List X) (i : ℕ) → length xs ≤ i → (x : X) → Contains xs x → Contains (take i xs) x
in_all xs i l x c = subst (λ ys. Contains ys x) (sym (take_all i xs l)) c

-- members of a list of terms
pub member_front : (xs ys : List Term) (t : Term) → IsMember xs t → IsMember (xs ++ ys) t
member_front [] ys t i = absurd i
member_front (x ∷ xs) ys t i = elim i [ inl e ↦ inl e | inr j ↦ inr (member_front xs ys t j) ]

pub member_push : (xs : List Term) (t : Term) → IsMember (xs ++ t ∷ []) t
member_push [] t = inl refl
member_push (x ∷ xs) t = inr (member_push xs t)

pub member_cases : (xs : List Term) (u t : Term) → IsMember (xs ++ u ∷ []) t → IsMember xs t ⊎ (u ≡ t)
member_cases [] u t i = elim i [ inl e ↦ inr e | inr j ↦ absurd j ]
member_cases (x ∷ xs) u t i = elim i [ inl e ↦ inl (inl e) | inr j ↦ elim (member_cases xs u t j) [ inl k ↦ inl (inr k) | inr e ↦ inr e ] ]

pub contains_member : (xs : List Term) (t : Term) → Contains xs t → IsMember xs t
contains_member [] t c = absurd (omega arith)
contains_member (x ∷ xs) t c = elim (has_cases x xs t c) [ inl e ↦ inl e | inr d ↦ inr (contains_member xs t d) ]

pub member_contains : (xs : List Term) (t : Term) → IsMember xs t → Contains xs t
member_contains [] t i = absurd i
member_contains (x ∷ xs) t i = elim i [ inl e ↦ (0, omega arith, e) | inr j ↦ Contains-append_right (x ∷ []) xs t (member_contains xs t j) ]

-- members of the images of a list
pub image_of : {X : Type 0} → (f : X → Term) (xs : List X) (x : X) (t : Term) → Contains xs x → f x ≡ t → IsMember (map f xs) t
image_of f [] x t c e = absurd (omega arith)
image_of f (y ∷ ys) x t c e = elim (has_cases y ys x c) [ inl d ↦ inl (ap f d ∙ e) | inr d ↦ inr (image_of f ys x t d e) ]

pub image_from : {X : Type 0} → (f : X → Term) (xs : List X) (t : Term) → IsMember (map f xs) t → (x : X) × Contains xs x × (f x ≡ t)
image_from f [] t i = absurd i
image_from f (y ∷ ys) t i = elim i [
  | inl e ↦ (y, (0, omega arith, refl), e)
  | inr j ↦ let k = image_from f ys t j in (k.0, Contains-append_right (y ∷ []) ys k.0 k.1, k.2)
]

pub equal_in : (xs : List Term) (x t : Term) → x ≡ t → Contains xs x → IsMember xs t
equal_in xs x t e c = subst (λ (w : Term). IsMember xs w) e (contains_member xs x c)

pub member_back : (xs ys : List Term) (t : Term) → IsMember ys t → IsMember (xs ++ ys) t
member_back [] ys t i = i
member_back (x ∷ xs) ys t i = inr (member_back xs ys t i)

pub member_either : (xs ys : List Term) (t : Term) → IsMember (xs ++ ys) t → IsMember xs t ⊎ IsMember ys t
member_either [] ys t i = inr i
member_either (x ∷ xs) ys t i = elim i [ inl e ↦ inl (inl e) | inr j ↦ elim (member_either xs ys t j) [ inl k ↦ inl (inr k) | inr k ↦ inr k ] ]
