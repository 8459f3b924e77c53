-- Looks in order, and whether one is among them.
use Rattle.std.proofs.Common.{◌≡◌, ◌∙◌, ◌+◌, ◌-◌, ◌<◌, ◌≤◌, ℕ, Bool, true, List, [], ◌∷◌, ◌++◌, length, take, drop, get_or, refl, sym, ap, subst, arith, inl, inr}
use Rattle.std.specs.Prelude.{◌↔◌}
use Rattle.std.specs.List.{All, Contains}
use Rattle.std.proofs.lemmas.List.{map-append, take_all, take_more, take-append-drop}
use Rattle.std.proofs.lemmas.List.Elements.{All-push, Contains-append_left, Contains-append_right}
use Rattle.std.specs.declared.cmp.Ordering.{Ordering}
use Rattle.std.specs.declared.cmp.Ordering.TheVariants.{Less, Equal, Greater}
use Rattle.std.specs.Ordering.{ordering_reverse}
use Rattle.std.specs.Cmp.{IsTotalOrder, tied_itself}
use Rattle.collections.specs.Ordered.{AllAbove, IsAscending}
use Rattle.collections.proofs.Members.{below, has_cases, has_equal, has_tail}
use Rattle.rdf_model.specs.declared.term.Term.{Term}
use Rattle.rdf_model.specs.declared.look.Look.{Look}
use Rattle.evidence_blocks.specs.declared.block.ShownLook.{ShownLook}
use Rattle.evidence_blocks.specs.Blocks.{looks_in}
use Rattle.evidence_blocks.specs.LookOrder.{look_cmp}
use Rattle.evidence_blocks.specs.LookOrders.{look_exact, look_total}

-- orders that differ
module _ (o : Ordering) where
  pub less_not_equal : o ≡ Less → o ≡ Equal → ⊥
  less_not_equal a b = let e : Less ≡ Equal = sym a ∙ b in cc

  pub greater_not_equal : o ≡ Greater → o ≡ Equal → ⊥
  greater_not_equal a b = let e : Greater ≡ Equal = sym a ∙ b in cc

  pub less_not_greater : o ≡ Less → o ≡ Greater → ⊥
  less_not_greater a b = let e : Less ≡ Greater = sym a ∙ b in cc

module _ {X : Type 0} (R : X → X → Ordering) (total : IsTotalOrder R) where
  above_lower : (x y : X) (zs : List X) → R x y ≡ Less → AllAbove R y zs → AllAbove R x zs
  above_lower x y [] h a = tt
  above_lower x y (z ∷ zs) h a = (total.trans x y z h a.0, above_lower x y zs h a.1)

  -- one item more at the beginning
  pub ascends_with : (x y : X) (zs : List X) → R x y ≡ Less → IsAscending R (y ∷ zs) ↔ IsAscending R (x ∷ y ∷ zs)
  ascends_with x y zs h = (λ a. ((h, above_lower x y zs h a.0), a), λ a. a.1)

  never_itself : (x y : X) → x ≡ y → R x y ≡ Equal
  never_itself x y e = subst (λ (z : X). R x z ≡ Equal) e (tied_itself total x)

  -- the items before one that is above, and behind one that is below
  pub only_lower : (xs : List X) (m : X) (ys : List X) (x : X) → IsAscending R (xs ++ m ∷ ys) → R m x ≡ Greater → Contains (xs ++ m ∷ ys) x ↔ Contains xs x
  only_lower xs m ys x a g = (to xs a, λ c. Contains-append_left xs (m ∷ ys) x c)
    where
      to : (zs : List X) → IsAscending R (zs ++ m ∷ ys) → Contains (zs ++ m ∷ ys) x → Contains zs x
      to [] b c = elim (has_cases m ys x c) [
        | inl e ↦ absurd (greater_not_equal (R m x) g (never_itself m x e))
        | inr d ↦ absurd (less_not_greater (R m x) (below R m ys x b.0 d) g)
      ]
      to (z ∷ zs) b c = elim (has_cases z (zs ++ m ∷ ys) x c) [ inl e ↦ has_equal z zs x e | inr d ↦ has_tail z zs x (to zs b.1 d) ]

  pub only_upper : (xs : List X) (m : X) (ys : List X) (x : X) → IsAscending R (xs ++ m ∷ ys) → R m x ≡ Less → Contains (xs ++ m ∷ ys) x ↔ Contains ys x
  only_upper xs m ys x a l = (to xs a, λ c. Contains-append_right xs (m ∷ ys) x (has_tail m ys x c))
    where
      to : (zs : List X) → IsAscending R (zs ++ m ∷ ys) → Contains (zs ++ m ∷ ys) x → Contains ys x
      to [] b c = elim (has_cases m ys x c) [ inl e ↦ absurd (less_not_equal (R m x) l (never_itself m x e)) | inr d ↦ d ]
      to (z ∷ zs) b c = elim (has_cases z (zs ++ m ∷ ys) x c) [
        | inl e ↦ (let under : R z m ≡ Less = below R z (zs ++ m ∷ ys) m b.0 (Contains-append_right zs (m ∷ ys) m (has_equal m ys m refl)) in
            let over : R x m ≡ Less = subst (λ (w : X). R w m ≡ Less) e under in
            absurd (less_not_greater (R x m) over (total.antisymm x m ∙ ap ordering_reverse l)))
        | inr d ↦ to zs b.1 d
      ]

  above_left : (z : X) (xs ys : List X) → AllAbove R z (xs ++ ys) → AllAbove R z xs
  above_left z [] ys a = tt
  above_left z (x ∷ xs) ys a = (a.0, above_left z xs ys a.1)

  pub ascending_left : (xs ys : List X) → IsAscending R (xs ++ ys) → IsAscending R xs
  ascending_left [] ys a = tt
  ascending_left (x ∷ xs) ys a = (above_left x xs ys a.0, ascending_left xs ys a.1)

  pub ascending_right : (xs ys : List X) → IsAscending R (xs ++ ys) → IsAscending R ys
  ascending_right [] ys a = a
  ascending_right (x ∷ xs) ys a = ascending_right xs ys a.1

-- the looks of a part
abbrev keys : List ShownLook → List (Look Term)
keys xs = looks_in xs

split_keys : (xs ys : List ShownLook) → keys (xs ++ ys) ≡ keys xs ++ keys ys
split_keys xs ys = map-append (λ (x : ShownLook). x.look) xs ys

-- the first two looks
pub ascends_next : (first second : ShownLook) (others : List ShownLook) → look_cmp first.look second.look ≡ Less → IsAscending look_cmp (keys (second ∷ others)) ↔ IsAscending look_cmp (keys (first ∷ second ∷ others))
ascends_next first second others less = ascends_with look_cmp look_total first.look second.look (keys others) less

-- one half, by the look in the middle
module _ (rest lower upper : List ShownLook) (look : Look Term) (split : rest ≡ lower ++ upper) where
  middle : (P : List ShownLook → Type 0) → 0 < length upper → ((m : ShownLook) (behind : List ShownLook) → upper ≡ m ∷ behind → P (m ∷ behind)) → P upper
  middle P some f = from upper some refl
    where
      from : (us : List ShownLook) → 0 < length us → upper ≡ us → P us
      from [] lt e = absurd (omega (arith, lt))
      from (m ∷ us) lt e = f m us e

  module _ (m : ShownLook) (behind : List ShownLook) (is : upper ≡ m ∷ behind) (asc : IsAscending look_cmp (keys rest)) where
    whole : keys rest ≡ keys lower ++ m.look ∷ keys behind
    whole = ap keys (split ∙ ap (λ (us : List ShownLook). lower ++ us) is) ∙ split_keys lower (m ∷ behind)

    ordered : IsAscending look_cmp (keys lower ++ m.look ∷ keys behind)
    ordered = subst (λ (ks : List (Look Term)). IsAscending look_cmp ks) whole asc

    pub middle_found : look_cmp m.look look ≡ Equal → Contains (keys rest) look
    middle_found e =
        let same : m.look ≡ look = look_exact m.look look e in
        subst (λ (ks : List (Look Term)). Contains ks look) (sym whole) (Contains-append_right (keys lower) (m.look ∷ keys behind) look (has_equal m.look (keys behind) look same))

    pub lower_half : look_cmp m.look look ≡ Greater → (Contains (keys rest) look ↔ Contains (keys lower) look) × IsAscending look_cmp (keys lower)
    lower_half g =
        let k = only_lower look_cmp look_total (keys lower) m.look (keys behind) look ordered g in (
          (λ c. k.0 (subst (λ (ks : List (Look Term)). Contains ks look) whole c), λ c. subst (λ (ks : List (Look Term)). Contains ks look) (sym whole) (k.1 c)),
          ascending_left look_cmp look_total (keys lower) (m.look ∷ keys behind) ordered,
        )

    pub upper_half : look_cmp m.look look ≡ Less → (Contains (keys rest) look ↔ Contains (keys behind) look) × IsAscending look_cmp (keys behind)
    upper_half l =
        let k = only_upper look_cmp look_total (keys lower) m.look (keys behind) look ordered l in (
          (λ c. k.0 (subst (λ (ks : List (Look Term)). Contains ks look) whole c), λ c. subst (λ (ks : List (Look Term)). Contains ks look) (sym whole) (k.1 c)),
          (ascending_right look_cmp look_total (keys lower) (m.look ∷ keys behind) ordered).1,
        )

-- what the search keeps
abbrev pub IsHalf : List ShownLook → List ShownLook → Look Term → Type 0
IsHalf looks rest look = (Contains (keys looks) look ↔ Contains (keys rest) look) × IsAscending look_cmp (keys rest)

-- the halves by the split of a slice
module _ (looks rest lower upper : List ShownLook) (look : Look Term) (k : ℕ) (front : lower ≡ take k rest) (back : upper ≡ drop k rest) (some : 0 < length upper) (half : IsHalf looks rest look) where
  joined : rest ≡ lower ++ upper
  joined = sym (take-append-drop k rest) ∙ (λ i. sym front i ++ sym back i)

  first_of : (m : ShownLook) → m ≡ get_or upper 0 m → (behind : List ShownLook) × (upper ≡ m ∷ behind) × (drop 1 upper ≡ behind)
  first_of m at = from upper some at
    where
      from : (us : List ShownLook) → 0 < length us → m ≡ get_or us 0 m → (behind : List ShownLook) × (us ≡ m ∷ behind) × (drop 1 us ≡ behind)
      from [] lt e = absurd (omega (arith, lt))
      from (u ∷ us) lt e = (us, ap (λ (x : ShownLook). x ∷ us) (sym e), refl)

  module _ (m : ShownLook) (at : m ≡ get_or upper 0 m) where
    pub found_here : look_cmp m.look look ≡ Equal → Contains (keys looks) look
    found_here e = let f = first_of m at in half.0.1 (middle_found rest lower upper look joined m f.0 f.1 half.1 e)

    pub in_lower : look_cmp m.look look ≡ Greater → IsHalf looks lower look
    in_lower g =
        let f = first_of m at in
        let h = lower_half rest lower upper look joined m f.0 f.1 half.1 g in
        ((λ c. h.0.0 (half.0.0 c), λ c. half.0.1 (h.0.1 c)), h.1)

    pub in_upper : (next : List ShownLook) → next ≡ drop 1 upper → look_cmp m.look look ≡ Less → IsHalf looks next look
    in_upper next is l =
        let f = first_of m at in
        let h = upper_half rest lower upper look joined m f.0 f.1 half.1 l in
        subst (λ (ns : List ShownLook). IsHalf looks ns look) (sym (is ∙ f.2)) ((λ c. h.0.0 (half.0.0 c), λ c. half.0.1 (h.0.1 c)), h.1)

-- what is behind the first item
pub all_behind : (us : List ShownLook) → take (length us - 1) (drop 1 us) ≡ drop 1 us
all_behind [] = refl
all_behind (u ∷ us) = take_all (length (u ∷ us) - 1) us (omega arith)

-- the first two looks ascend
pub lead_yes : (first : ShownLook) (others : List ShownLook) (second : ShownLook) (answer : Bool) → 0 < length others → second ≡ get_or others 0 second → (answer ≡ true ↔ (look_cmp first.look second.look ≡ Less)) → answer ≡ true
    → IsAscending look_cmp (keys others) ↔ IsAscending look_cmp (keys (first ∷ others))
lead_yes first [] second answer lt at told h = absurd (omega (arith, lt))
lead_yes first (x ∷ others) second answer lt at told h = ascends_next first x others (subst (λ (y : ShownLook). look_cmp first.look y.look ≡ Less) at (told.0 h))

-- nothing is left
pub none_left : (looks rest : List ShownLook) (look : Look Term) → length rest ≡ 0 → IsHalf looks rest look → Contains (keys looks) look → ⊥
none_left looks [] look e half c = let k = half.0.0 c in omega (arith, k.1)
none_left looks (x ∷ xs) look e half c = absurd (omega (arith, e))

-- all items so far
module _ {X : Type 0} (P : X → Type 0) (xs : List X) (i : ℕ) where
  pub more_so_far : (x : X) → i < length xs → x ≡ get_or xs i x → All P (take i xs) → P x → All P (take (i + 1) xs)
  more_so_far x lt at before p = subst (λ (ys : List X). All P ys) (sym (take_more xs i x lt ∙ ap (λ (y : X). take i xs ++ y ∷ []) (sym at))) (All-push P (take i xs) x before p)

  pub all_so_far : length xs ≤ i → All P (take i xs) → All P xs
  all_so_far le h = subst (λ (ys : List X). All P ys) (take_all i xs le) h

  pub not_so_far : (x : X) → i < length xs → x ≡ get_or xs i x → (P x → ⊥) → All P xs → ⊥
  not_so_far x lt at never h = never (subst P (sym at) (h i x lt))
