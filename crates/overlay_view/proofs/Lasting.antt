-- What stands in an overlay.
use Rattle.std.proofs.Common.{◌≡◌, ◌∙◌, ℕ, Bool, List, [], ◌∷◌, ◌++◌, true, false, refl, sym, subst, ap, arith, inl, inr}
use Rattle.std.specs.Prelude.{◌⊎◌, ◌↔◌, ◌||◌, not, filter}
use Rattle.std.specs.List.{Contains}
use Rattle.std.proofs.lemmas.List.Elements.{Contains-append_cases, Contains-append_left, Contains-append_right}
use Rattle.std.specs.declared.cmp.Ordering.TheVariants.{Less, Equal, Greater}
use Rattle.std.specs.Ordering.{is_eq, nat_cmp}
use Rattle.std.specs.Cmp.{tied_itself}
use Rattle.collections.specs.Ordered.{has_item}
use Rattle.collections.specs.Listings.{IsListing}
use Rattle.collections.specs.Pairs.{pair_cmp}
use Rattle.collections.proofs.Members.{has_cases, has_equal, has_tail}
use Rattle.rdf_model.specs.declared.ids.Ids.{Ids}
use Rattle.rdf_model.specs.declared.look.Look.{Look}
use Rattle.rdf_model.specs.declared.look.Look.TheVariants.{Out, In, OutAny}
use Rattle.rdf_model.specs.Numbers.{IsFound, AsksForOne}
use Rattle.triple_index.specs.Keys.{ids_cmp}
use Rattle.triple_index.specs.IdsOrder.{ids_total, ids_exact}
use Rattle.triple_index.proofs.Matching.{kept_of, keeps}
use Rattle.overlay_view.specs.Overlays.{is_left, overlaid, triple_found}

or_true : (b : Bool) → (b || true) ≡ true
or_true true = refl
or_true false = refl

pub has_true : (t : Ids) (us : List Ids) → Contains us t → has_item ids_cmp t us ≡ true
has_true t [] c = absurd (omega arith)
has_true t (u ∷ us) c = elim (has_cases u us t c) [
  | inl e ↦ ap (λ o. is_eq o || has_item ids_cmp t us) (subst (λ (w : Ids). ids_cmp w t ≡ Equal) (sym e) (tied_itself ids_total t))
  | inr d ↦ ap (λ b. is_eq (ids_cmp u t) || b) (has_true t us d) ∙ or_true (is_eq (ids_cmp u t))
]

pub true_has : (t : Ids) (us : List Ids) → has_item ids_cmp t us ≡ true → Contains us t
true_has t [] e = cc
true_has t (u ∷ us) e = elim (ids_cmp u t) as (λ c. ids_cmp u t ≡ c → (is_eq c || has_item ids_cmp t us) ≡ true → Contains (u ∷ us) t) [
  | Less ↦ λ h d. has_tail u us t (true_has t us d)
  | Equal ↦ λ h d. has_equal u us t (ids_exact u t h)
  | Greater ↦ λ h d. has_tail u us t (true_has t us d)
] refl e

pub same_test : (b : Bool) (t : Ids) (us : List Ids) → (b ≡ true → Contains us t) → (Contains us t → b ≡ true) → b ≡ has_item ids_cmp t us
same_test true t us f g = sym (has_true t us (f refl))
same_test false t us f g = elim (has_item ids_cmp t us) as (λ c. has_item ids_cmp t us ≡ c → false ≡ c) [
  | true ↦ λ e. g (true_has t us e)
  | false ↦ λ e. refl
] refl

pub left_of : (t : Ids) (us : List Ids) → (Contains us t → ⊥) → is_left us t ≡ true
left_of t us n = elim (has_item ids_cmp t us) as (λ c. has_item ids_cmp t us ≡ c → not c ≡ true) [
  | true ↦ λ e. absurd (n (true_has t us e))
  | false ↦ λ e. refl
] refl

pub not_true : (b : Bool) → not b ≡ true → b ≡ true → ⊥
not_true true e h = cc
not_true false e h = cc

-- it is beneath and not removed, or added
unfoldable pub IsLaid : List Ids → List Ids → List Ids → Ids → Type 0
IsLaid base added removed t = (Contains base t × (is_left removed t ≡ true)) ⊎ Contains added t

pub laid_of : (base added removed : List Ids) (t : Ids) → Contains (overlaid base added removed) t → IsLaid base added removed t
unfolding IsLaid
laid_of base added removed t c = elim (Contains-append_cases (filter (is_left removed) base) added t c) [ inl d ↦ inl (kept_of (is_left removed) base t d) | inr d ↦ inr d ]

pub of_laid : (base added removed : List Ids) (t : Ids) → IsLaid base added removed t → Contains (overlaid base added removed) t
unfolding IsLaid
of_laid base added removed t l = elim l [ inl d ↦ Contains-append_left (filter (is_left removed) base) added t (keeps (is_left removed) base t d.0 d.1) | inr d ↦ Contains-append_right (filter (is_left removed) base) added t d ]

-- what is read of an overlay by a way from what is read to triples
module _ {Y : Type 0} (f : Y → Ids) (base added removed : List Ids) (below : List Y) (in_base : (y : Y) → Contains below y ↔ Contains base (f y)) where
  pub read_of : (y : Y) → Contains (filter (λ e. is_left removed (f e)) below) y ⊎ Contains added (f y) → Contains (overlaid base added removed) (f y)
  unfolding IsLaid
  read_of y c = of_laid base added removed (f y) (elim c [ inl d ↦ (let k = kept_of (λ e. is_left removed (f e)) below y d in inl ((in_base y).0 k.0, k.1)) | inr d ↦ inr d ])

  pub of_read : (y : Y) → Contains (overlaid base added removed) (f y) → Contains (filter (λ e. is_left removed (f e)) below) y ⊎ Contains added (f y)
  unfolding IsLaid
  of_read y c = elim (laid_of base added removed (f y) c) [ inl d ↦ inl (keeps (λ e. is_left removed (f e)) below y ((in_base y).1 d.0) d.1) | inr d ↦ inr d ]

pub found_in : (look : Look ℕ) → AsksForOne look → (ids : List Ids) (n : ℕ) → IsFound look ids n ↔ Contains ids (triple_found look n)
found_in (Out x p) a ids n = (λ c. c, λ c. c)
found_in (In p x) a ids n = (λ c. c, λ c. c)
found_in (OutAny x) a ids n = absurd a

-- the numbers that a look finds
pub found_laid : (look : Look ℕ) → AsksForOne look → (base added removed : List Ids) (beneath left all : List ℕ) → IsListing nat_cmp (IsFound look base) beneath → left ≡ filter (λ n. is_left removed (triple_found look n)) beneath →
    ((n : ℕ) → Contains all n ↔ (Contains left n ⊎ IsFound look added n)) → (n : ℕ) → Contains all n ↔ IsFound look (overlaid base added removed) n
found_laid look a base added removed beneath left all b is m n =
    let in_base : (k : ℕ) → Contains beneath k ↔ Contains base (triple_found look k) = λ k. (λ c. (found_in look a base k).0 ((b.members k).0 c), λ c. (b.members k).1 ((found_in look a base k).1 c)) in (
      λ c. (found_in look a (overlaid base added removed) n).1 (read_of (triple_found look) base added removed beneath in_base n (elim ((m n).0 c) [ inl x ↦ inl (subst (λ (xs : List ℕ). Contains xs n) is x) | inr x ↦ inr ((found_in look a added n).0 x) ])),
      λ q. (m n).1 (elim (of_read (triple_found look) base added removed beneath in_base n ((found_in look a (overlaid base added removed) n).0 q)) [ inl x ↦ inl (subst (λ (xs : List ℕ). Contains xs n) (sym is) x) | inr x ↦ inr ((found_in look a added n).1 x) ]),
    )

-- the pairs of triples
pub pairs_laid : (f : ℕ × ℕ → Ids) (base added removed : List Ids) (beneath more left all : List (ℕ × ℕ)) → IsListing pair_cmp (λ e. Contains base (f e)) beneath → IsListing pair_cmp (λ e. Contains added (f e)) more →
    left ≡ filter (λ e. is_left removed (f e)) beneath → all ≡ left ++ more → (e : ℕ × ℕ) → Contains all e ↔ Contains (overlaid base added removed) (f e)
pairs_laid f base added removed beneath more left all b m is as' e = (
  λ c. read_of f base added removed beneath b.members e (elim (Contains-append_cases left more e (subst (λ (xs : List (ℕ × ℕ)). Contains xs e) as' c)) [ inl x ↦ inl (subst (λ (xs : List (ℕ × ℕ)). Contains xs e) is x) | inr x ↦ inr ((m.members e).0 x) ]),
  λ q. subst (λ (xs : List (ℕ × ℕ)). Contains xs e) (sym as') (elim (of_read f base added removed beneath b.members e q) [ inl x ↦ Contains-append_left left more e (subst (λ (xs : List (ℕ × ℕ)). Contains xs e) (sym is) x) | inr x ↦ Contains-append_right left more e ((m.members e).1 x) ]),
)

module _ (base added removed : List Ids) (t : Ids) where
  pub laid_added : Contains added t → Contains (overlaid base added removed) t
  laid_added c = Contains-append_right (filter (is_left removed) base) added t c

  pub laid_base : Contains base t → is_left removed t ≡ true → Contains (overlaid base added removed) t
  laid_base c e = Contains-append_left (filter (is_left removed) base) added t (keeps (is_left removed) base t c e)

  -- what is not added stands beneath, and is not removed
  pub base_laid : (Contains added t → ⊥) → Contains (overlaid base added removed) t → Contains base t × (is_left removed t ≡ true)
  base_laid n c = elim (Contains-append_cases (filter (is_left removed) base) added t c) [ inl d ↦ kept_of (is_left removed) base t d | inr d ↦ absurd (n d) ]
