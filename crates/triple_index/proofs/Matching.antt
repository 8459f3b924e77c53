-- What a pattern finds in the order that serves it.
use Rattle.std.proofs.Common.{◌≡◌, ◌∙◌, ℕ, Bool, List, [], ◌∷◌, true, false, refl, sym, subst, ap, arith, inl, inr}
use Rattle.std.specs.Prelude.{◌↔◌, Option, filter, cond, map}
use Rattle.std.specs.List.{Contains}
use Rattle.std.specs.Cmp.{tied_itself}
use Rattle.collections.specs.Ordered.{IsAscending}
use Rattle.collections.proofs.Members.{has_cases, has_equal, has_tail, below}
use Rattle.rdf_model.specs.declared.ids.Ids.{Ids}
use Rattle.triple_index.specs.declared.key.Key.{Key}
use Rattle.triple_index.specs.declared.order.Order.{Order}
use Rattle.triple_index.specs.declared.order.Order.TheVariants.{Subjects, Predicates, Objects}
use Rattle.triple_index.specs.declared.prefix.Prefix.{Prefix}
use Rattle.triple_index.specs.Keys.{key_cmp, ids_of}
use Rattle.triple_index.specs.Orders.{key_total}
use Rattle.triple_index.specs.Sets.{AreOne}
use Rattle.triple_index.proofs.Listings.{ids_stood, ids_stand}
use Rattle.triple_index.specs.Rotations.{by_order, from_order}
use Rattle.triple_index.specs.Patterns.{AreApart, ListsOnce, IsMatch, matches_ids, begins_with}

back_and_forth : (order : Order) (t : Ids) → from_order order (by_order order t) ≡ t
back_and_forth Subjects t = refl
back_and_forth Predicates t = refl
back_and_forth Objects t = refl

forth_and_back : (order : Order) (k : Key) → by_order order (from_order order k) ≡ k
forth_and_back Subjects k = refl
forth_and_back Predicates k = refl
forth_and_back Objects k = refl

-- what a filter keeps
pub kept_of : {X : Type 0} (q : X → Bool) (xs : List X) (x : X) → Contains (filter q xs) x → Contains xs x × (q x ≡ true)
kept_of q [] x c = absurd (omega arith)
kept_of q (y ∷ ys) x c = elim (q y) as (λ b. q y ≡ b → Contains (cond b (y ∷ filter q ys) (filter q ys)) x → Contains (y ∷ ys) x × (q x ≡ true)) [
  | true ↦ λ h d. elim (has_cases y (filter q ys) x d) [ inl e ↦ (has_equal y ys x e, subst (λ w. q w ≡ true) e h) | inr i ↦ let k = kept_of q ys x i in (has_tail y ys x k.0, k.1) ]
  | false ↦ λ h d. let k = kept_of q ys x d in (has_tail y ys x k.0, k.1)
] refl c

pub keeps : {X : Type 0} (q : X → Bool) (xs : List X) (x : X) → Contains xs x → q x ≡ true → Contains (filter q xs) x
keeps q [] x c e = absurd (omega arith)
keeps q (y ∷ ys) x c e = elim (q y) as (λ b. q y ≡ b → Contains (cond b (y ∷ filter q ys) (filter q ys)) x) [
  | true ↦ λ h. elim (has_cases y ys x c) [ inl d ↦ has_equal y (filter q ys) x d | inr d ↦ has_tail y (filter q ys) x (keeps q ys x d e) ]
  | false ↦ λ h. elim (has_cases y ys x c) [ inl d ↦ absurd (let g = ap q d in cc (g, h, e)) | inr d ↦ keeps q ys x d e ]
] refl

apart_filter : {X : Type 0} (q : X → Bool) (xs : List X) → AreApart xs → AreApart (filter q xs)
apart_filter q [] a = tt
apart_filter q (x ∷ xs) a = elim (q x) as (λ b. AreApart (cond b (x ∷ filter q xs) (filter q xs))) [ true ↦ (λ c. a.0 (kept_of q xs x c).0, apart_filter q xs a.1) | false ↦ apart_filter q xs a.1 ]

apart_ascending : (ks : List Key) → IsAscending key_cmp ks → AreApart ks
apart_ascending [] a = tt
apart_ascending (k ∷ ks) a = (λ c. let l = below key_cmp k ks k a.0 c in let e = tied_itself key_total k in cc (l, e), apart_ascending ks a.1)

module _ (order : Order) where
  stood : (ks : List Key) (t : Ids) → Contains (map (from_order order) ks) t → Contains ks (by_order order t)
  stood [] t c = absurd (omega arith)
  stood (k ∷ ks) t c = elim (has_cases (from_order order k) (map (from_order order) ks) t c) [ inl e ↦ has_equal k ks (by_order order t) (sym (forth_and_back order k) ∙ ap (by_order order) e) | inr d ↦ has_tail k ks (by_order order t) (stood ks t d) ]

  stands : (ks : List Key) (t : Ids) → Contains ks (by_order order t) → Contains (map (from_order order) ks) t
  stands [] t c = absurd (omega arith)
  stands (k ∷ ks) t c = elim (has_cases k ks (by_order order t) c) [ inl e ↦ has_equal (from_order order k) (map (from_order order) ks) t (ap (from_order order) e ∙ back_and_forth order t) | inr d ↦ has_tail (from_order order k) (map (from_order order) ks) t (stands ks t d) ]

  apart_map : (ks : List Key) → AreApart ks → AreApart (map (from_order order) ks)
  apart_map [] a = tt
  apart_map (k ∷ ks) a = (λ c. a.0 (subst (λ (w : Key). Contains ks w) (forth_and_back order k) (stood ks (from_order order k) c)), apart_map ks a.1)

  pub matching_listed : (s p o : Option ℕ) (prefix : Prefix) → ((t : Ids) → matches_ids s p o t ≡ true → begins_with prefix (by_order order t) ≡ true) →
      (ids : List Ids) (ks : List Key) → IsAscending key_cmp ks → ((t : Ids) → Contains ids t ↔ Contains ks (by_order order t)) →
      ListsOnce (IsMatch s p o ids) (filter (matches_ids s p o) (map (from_order order) (filter (begins_with prefix) ks)))
  matching_listed s p o prefix begins ids ks a same = record {
    apart = apart_filter (matches_ids s p o) (map (from_order order) (filter (begins_with prefix) ks)) (apart_map (filter (begins_with prefix) ks) (apart_filter (begins_with prefix) ks (apart_ascending ks a)));
    members = λ t. (
      λ c. let k = kept_of (matches_ids s p o) (map (from_order order) (filter (begins_with prefix) ks)) t c in
          record { there = (same t).1 (kept_of (begins_with prefix) ks (by_order order t) (stood (filter (begins_with prefix) ks) t k.0)).0; fits = k.1 },
      λ m. keeps (matches_ids s p o) (map (from_order order) (filter (begins_with prefix) ks)) t (stands (filter (begins_with prefix) ks) t (keeps (begins_with prefix) ks (by_order order t) ((same t).0 m.there) (begins t m.fits))) m.fits,
    );
  }

-- each order holds the triples
module _ (s p o : List Key) (one : AreOne s p o) (ids : List Ids) (view : ids_of s ≡ ids) (order : Order) where
  pub in_predicates : order ≡ Predicates → (t : Ids) → Contains ids t ↔ Contains p (by_order order t)
  in_predicates e = subst (λ (w : Order). (t : Ids) → Contains ids t ↔ Contains p (by_order w t)) (sym e) (λ t.
      (λ c. (one.in_second t).0 (ids_stood s t (subst (λ (is : List Ids). Contains is t) (sym view) c)), λ c. subst (λ (is : List Ids). Contains is t) view (ids_stand s t ((one.in_second t).1 c))))

  pub in_objects : order ≡ Objects → (t : Ids) → Contains ids t ↔ Contains o (by_order order t)
  in_objects e = subst (λ (w : Order). (t : Ids) → Contains ids t ↔ Contains o (by_order w t)) (sym e) (λ t.
      (λ c. (one.in_third t).0 (ids_stood s t (subst (λ (is : List Ids). Contains is t) (sym view) c)), λ c. subst (λ (is : List Ids). Contains is t) view (ids_stand s t ((one.in_third t).1 c))))
