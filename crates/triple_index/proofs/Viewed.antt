-- An index seen as its triples.
use Rattle.std.proofs.Common.{◌≡◌, List, [], ◌∷◌, refl, ap}
use Rattle.std.specs.declared.cmp.Ordering.TheVariants.{Less, Equal, Greater}
use Rattle.std.specs.Ordering.{match_ordering}
use Rattle.collections.specs.Ordered.{AllAbove, IsAscending, with_item, without_item}
use Rattle.rdf_model.specs.declared.ids.Ids.{Ids}
use Rattle.triple_index.specs.declared.key.Key.{Key}
use Rattle.triple_index.specs.Keys.{key_cmp, ids_cmp, by_subject, from_subject, ids_of}

pub viewed_with : (t : Ids) (ks : List Key) → ids_of (with_item key_cmp (by_subject t) ks) ≡ with_item ids_cmp t (ids_of ks)
viewed_with t [] = refl
viewed_with t (k ∷ ks) = elim (key_cmp (by_subject t) k) as (λ c. ids_of (match_ordering c (by_subject t ∷ k ∷ ks) (k ∷ ks) (k ∷ with_item key_cmp (by_subject t) ks)) ≡ match_ordering c (t ∷ ids_of (k ∷ ks)) (ids_of (k ∷ ks)) (from_subject k ∷ with_item ids_cmp t (ids_of ks))) [
  | Less ↦ refl
  | Equal ↦ refl
  | Greater ↦ ap (λ (ids : List Ids). from_subject k ∷ ids) (viewed_with t ks)
]

pub viewed_without : (t : Ids) (ks : List Key) → ids_of (without_item key_cmp (by_subject t) ks) ≡ without_item ids_cmp t (ids_of ks)
viewed_without t [] = refl
viewed_without t (k ∷ ks) = elim (key_cmp (by_subject t) k) as (λ c. ids_of (match_ordering c (k ∷ ks) ks (k ∷ without_item key_cmp (by_subject t) ks)) ≡ match_ordering c (ids_of (k ∷ ks)) (ids_of ks) (from_subject k ∷ without_item ids_cmp t (ids_of ks))) [
  | Less ↦ refl
  | Equal ↦ refl
  | Greater ↦ ap (λ (ids : List Ids). from_subject k ∷ ids) (viewed_without t ks)
]

viewed_above : (k : Key) (ks : List Key) → AllAbove key_cmp k ks → AllAbove ids_cmp (from_subject k) (ids_of ks)
viewed_above k [] a = tt
viewed_above k (l ∷ ks) a = (a.0, viewed_above k ks a.1)

pub viewed_ascending : (ks : List Key) → IsAscending key_cmp ks → IsAscending ids_cmp (ids_of ks)
viewed_ascending [] a = tt
viewed_ascending (k ∷ ks) a = (viewed_above k ks a.0, viewed_ascending ks a.1)
