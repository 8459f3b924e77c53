-- The set that is made by adding triples, each given by its numbers.
use Rattle.std.proofs.Common.{◌≡◌, ◌∙◌, ℕ, zero, suc, ◌<◌, List, [], ◌∷◌, length, get_or, refl, sym, subst, arith, inl, inr}
use Rattle.std.specs.Prelude.{◌⊎◌, map}
use Rattle.std.specs.List.{Contains}
use Rattle.collections.specs.Listings.{IsListing}
use Rattle.collections.specs.Ordered.{IsAscending, with_item}
use Rattle.collections.proofs.Ascending.{IsAscending-with_item}
use Rattle.collections.proofs.Members.{has_cases, has_equal, has_tail, same_lists, with_cases, with_new, with_old}
use Rattle.rdf_model.specs.declared.ids.Ids.{Ids}
use Rattle.triple_index.specs.Changes.{after_ids}
use Rattle.triple_index.specs.IdsOrder.{ids_exact, ids_total}
use Rattle.triple_index.specs.Keys.{ids_cmp}
use Rattle.triple_index.specs.declared.change.NumberedChange.{NumberedChange}
use Rattle.triple_index.specs.declared.change.NumberedChange.TheVariants.{Add, Remove}

adds_ascend : (is js : List Ids) → IsAscending ids_cmp js → IsAscending ids_cmp (after_ids js (map Add is))
adds_ascend [] js a = a
adds_ascend (i ∷ is) js a = adds_ascend is (with_item ids_cmp i js) (IsAscending-with_item ids_total i js a)

adds_old : (is js : List Ids) (w : Ids) → Contains js w → Contains (after_ids js (map Add is)) w
adds_old [] js w c = c
adds_old (i ∷ is) js w c = adds_old is (with_item ids_cmp i js) w (with_old ids_cmp i js w c)

adds_new : (is js : List Ids) (w : Ids) → Contains is w → Contains (after_ids js (map Add is)) w
adds_new [] js w c = absurd (omega arith)
adds_new (i ∷ is) js w c = elim (has_cases i is w c) [
  | inl e ↦ adds_old is (with_item ids_cmp i js) w (subst (λ (v : Ids). Contains (with_item ids_cmp i js) v) e (with_new ids_cmp ids_total ids_exact i js))
  | inr d ↦ adds_new is (with_item ids_cmp i js) w d
]

adds_cases : (is js : List Ids) (w : Ids) → Contains (after_ids js (map Add is)) w → Contains is w ⊎ Contains js w
adds_cases [] js w c = inr c
adds_cases (i ∷ is) js w c = elim (adds_cases is (with_item ids_cmp i js) w c) [
  | inl d ↦ inl (has_tail i is w d)
  | inr d ↦ elim (with_cases ids_cmp i js w d) [ inl e ↦ inl (has_equal i is w e) | inr k ↦ inr k ]
]

none_in : (xs : List Ids) → length xs ≡ 0 → xs ≡ []
none_in [] l = refl
none_in (x ∷ xs) l = absurd (omega arith)

-- the listing of triples that changes add to none is the set after them
pub made_at_once : (before added index : List Ids) (changes : List NumberedChange) → length before ≡ 0 → changes ≡ map Add added → IsListing ids_cmp (Contains added) index → index ≡ after_ids before changes
made_at_once before added index changes none e l =
    same_lists ids_cmp ids_total index (after_ids [] (map Add added)) l.ascending (adds_ascend added [] tt) (λ w. (
      λ c. adds_new added [] w ((l.members w).0 c),
      λ c. (l.members w).1 (elim (adds_cases added [] w c) [ inl d ↦ d | inr d ↦ absurd (omega arith) ]),
    ))
    ∙ sym (λ k. after_ids (none_in before none k) (e k))

-- a change that takes out is none of those that add
pub not_added : (added : List Ids) (k : ℕ) (i : Ids) → k < length (map Add added) → get_or (map Add added) k (Add (record { subject = 0; predicate = 0; object = 0 })) ≡ Remove i → ⊥
not_added [] k i lt e = absurd (omega arith)
not_added (a ∷ added) zero i lt e = cc e
not_added (a ∷ added) (suc k) i lt e = not_added added k i (omega (arith, lt)) e
