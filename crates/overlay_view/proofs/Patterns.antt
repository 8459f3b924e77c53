-- What a pattern finds in an overlay: what it finds beneath that is neither removed nor added, and what it finds added.
use Rattle.std.proofs.Common.{◌≡◌, ℕ, Bool, List, [], ◌∷◌, ◌++◌, true, false, refl, sym, subst, ap, inl, inr}
use Rattle.std.specs.Prelude.{◌&&◌, Option, filter, cond, not}
use Rattle.std.specs.List.{Contains}
use Rattle.std.proofs.lemmas.List.Elements.{Contains-append_cases, Contains-append_left, Contains-append_right}
use Rattle.collections.specs.Ordered.{has_item}
use Rattle.collections.proofs.Members.{has_head, has_tail}
use Rattle.rdf_model.specs.declared.ids.Ids.{Ids}
use Rattle.triple_index.specs.Keys.{ids_cmp}
use Rattle.triple_index.specs.Patterns.{AreApart, IsMatch, ListsOnce, matches_ids}
use Rattle.triple_index.proofs.Matching.{kept_of, keeps}
use Rattle.overlay_view.specs.Overlays.{is_left, overlaid}
use Rattle.overlay_view.proofs.Lasting.{IsLaid, has_true, true_has, laid_of, of_laid, not_true}

-- lists without repeats: a part of one, and two that share no item
pub apart_filter : {X : Type 0} (q : X → Bool) (xs : List X) → AreApart xs → AreApart (filter q xs)
apart_filter q [] a = tt
apart_filter q (x ∷ xs) a = elim (q x) as (λ b. AreApart (cond b (x ∷ filter q xs) (filter q xs))) [ true ↦ (λ c. a.0 (kept_of q xs x c).0, apart_filter q xs a.1) | false ↦ apart_filter q xs a.1 ]

pub apart_append : {X : Type 0} (xs ys : List X) → AreApart xs → AreApart ys → ((x : X) → Contains xs x → Contains ys x → ⊥) → AreApart (xs ++ ys)
apart_append [] ys a b n = b
apart_append (x ∷ xs) ys a b n = (
  λ c. elim (Contains-append_cases xs ys x c) [ inl d ↦ a.0 d | inr d ↦ n x (has_head x xs) d ],
  apart_append xs ys a.1 b (λ y c d. n y (has_tail x xs y c) d),
)

both : (a b : Bool) → (a && b) ≡ true → (a ≡ true) × (b ≡ true)
both true b e = (refl, e)
both false b e = absurd (cc)

both_true : (a b : Bool) → a ≡ true → b ≡ true → (a && b) ≡ true
both_true true b e f = f
both_true false b e f = absurd (cc)

module _ (s p o : Option ℕ) (base added removed : List Ids) where
  module _ (beneath left more found : List Ids) (below : ListsOnce (IsMatch s p o base) beneath) (above : ListsOnce (IsMatch s p o added) more) (is : left ≡ filter (λ t. is_left removed t && is_left added t) beneath) (all : found ≡ left ++ more) where
    kept : (t : Ids) → Contains left t → Contains beneath t × ((is_left removed t && is_left added t) ≡ true)
    kept t c = kept_of (λ u. is_left removed u && is_left added u) beneath t (subst (λ (ts : List Ids). Contains ts t) is c)

    to : (t : Ids) → Contains (left ++ more) t → IsMatch s p o (overlaid base added removed) t
    unfolding IsLaid
    to t c = elim (Contains-append_cases left more t c) [
      | inl d ↦ let k = kept t d in let m = (below.members t).0 k.0 in
          record { there = of_laid base added removed t (inl (m.there, (both (is_left removed t) (is_left added t) k.1).0)); fits = m.fits }
      | inr d ↦ let m = (above.members t).0 d in record { there = of_laid base added removed t (inr m.there); fits = m.fits }
    ]

    in_left : (t : Ids) → Contains base t → is_left removed t ≡ true → is_left added t ≡ true → matches_ids s p o t ≡ true → Contains left t
    in_left t c e f g = subst (λ (ts : List Ids). Contains ts t) (sym is) (keeps (λ u. is_left removed u && is_left added u) beneath t ((below.members t).1 (record { there = c; fits = g })) (both_true (is_left removed t) (is_left added t) e f))

    in_more : (t : Ids) → Contains added t → matches_ids s p o t ≡ true → Contains more t
    in_more t c g = (above.members t).1 (record { there = c; fits = g })

    from : (t : Ids) → IsMatch s p o (overlaid base added removed) t → Contains (left ++ more) t
    unfolding IsLaid
    from t m = elim (laid_of base added removed t m.there) [
      | inl d ↦ elim (has_item ids_cmp t added) as (λ b. has_item ids_cmp t added ≡ b → Contains (left ++ more) t) [
        | true ↦ λ e. Contains-append_right left more t (in_more t (true_has t added e) m.fits)
        | false ↦ λ e. Contains-append_left left more t (in_left t d.0 d.1 (ap not e) m.fits)
      ] refl
      | inr d ↦ Contains-append_right left more t (in_more t d m.fits)
    ]

    apart : AreApart (left ++ more)
    apart = apart_append left more
        (subst (λ (ts : List Ids). AreApart ts) (sym is) (apart_filter (λ u. is_left removed u && is_left added u) beneath below.apart)) above.apart
        (λ t c d. not_true (has_item ids_cmp t added) (both (is_left removed t) (is_left added t) (kept t c).1).1 (has_true t added ((above.members t).0 d).there))

    pub pattern_laid : ListsOnce (IsMatch s p o (overlaid base added removed)) found
    pattern_laid = subst (λ (ts : List Ids). ListsOnce (IsMatch s p o (overlaid base added removed)) ts) (sym all) (record { apart = apart; members = λ t. (to t, from t) })
