-- Three orders of one list of triples.
use Rattle.std.proofs.Common.{◌≡◌, ◌∙◌, List, [], ◌∷◌, refl, sym, ap, arith, inl, inr}
use Rattle.std.specs.Prelude.{◌↔◌, map}
use Rattle.std.specs.List.{Contains}
use Rattle.std.specs.declared.cmp.Ordering.{Ordering}
use Rattle.collections.specs.Listings.{IsListing}
use Rattle.collections.proofs.Members.{has_cases, has_equal, has_tail}
use Rattle.rdf_model.specs.declared.ids.Ids.{Ids}
use Rattle.triple_index.specs.declared.key.Key.{Key}
use Rattle.triple_index.specs.Keys.{key_cmp, ids_cmp, by_subject, by_predicate, by_object, from_subject, from_predicate, from_object, ids_of}
use Rattle.triple_index.specs.Sets.{AreOne}
use Rattle.triple_index.proofs.Listings.{ids_stood, ids_stand}
use Rattle.triple_index.proofs.Viewed.{viewed_ascending}

module _ {T K : Type 0} (f : T → K) (back : K → T) (undo : (t : T) → back (f t) ≡ t) where
  map_stands : (ts : List T) (t : T) → Contains ts t → Contains (map f ts) (f t)
  map_stands [] t c = absurd (omega arith)
  map_stands (s ∷ ts) t c = elim (has_cases s ts t c) [
    | inl e ↦ has_equal (f s) (map f ts) (f t) (ap f e)
    | inr d ↦ has_tail (f s) (map f ts) (f t) (map_stands ts t d)
  ]

  map_stood : (ts : List T) (t : T) → Contains (map f ts) (f t) → Contains ts t
  map_stood [] t c = absurd (omega arith)
  map_stood (s ∷ ts) t c = elim (has_cases (f s) (map f ts) (f t) c) [
    | inl e ↦ has_equal s ts t (sym (undo s) ∙ ap back e ∙ undo t)
    | inr d ↦ has_tail s ts t (map_stood ts t d)
  ]

  -- what stands among the keys of a list stands in it
  listed : (R : K → K → Ordering) (ts : List T) (ks : List K) → IsListing R (Contains (map f ts)) ks → (t : T) → Contains ks (f t) ↔ Contains ts t
  listed R ts ks l t = (λ c. map_stood ts t ((l.members (f t)).0 c), λ c. (l.members (f t)).1 (map_stands ts t c))

module _ (ts : List Ids) (s p o : List Key) (first : IsListing key_cmp (Contains (map by_subject ts)) s) (second : IsListing key_cmp (Contains (map by_predicate ts)) p) (third : IsListing key_cmp (Contains (map by_object ts)) o) where
  subjects : (t : Ids) → Contains s (by_subject t) ↔ Contains ts t
  subjects = listed by_subject from_subject (λ _. refl) key_cmp ts s first

  predicates : (t : Ids) → Contains p (by_predicate t) ↔ Contains ts t
  predicates = listed by_predicate from_predicate (λ _. refl) key_cmp ts p second

  objects : (t : Ids) → Contains o (by_object t) ↔ Contains ts t
  objects = listed by_object from_object (λ _. refl) key_cmp ts o third

  pub one_listed : AreOne s p o
  one_listed = record {
    first = first.ascending;
    second = second.ascending;
    third = third.ascending;
    in_second = λ t. (λ c. (predicates t).1 ((subjects t).0 c), λ c. (subjects t).1 ((predicates t).0 c));
    in_third = λ t. (λ c. (objects t).1 ((subjects t).0 c), λ c. (subjects t).1 ((objects t).0 c));
  }

pub ids_listed : (ts : List Ids) (s : List Key) → IsListing key_cmp (Contains (map by_subject ts)) s → IsListing ids_cmp (Contains ts) (ids_of s)
ids_listed ts s l = record {
  ascending = viewed_ascending s l.ascending;
  members = λ t. (
    λ c. (listed by_subject from_subject (λ _. refl) key_cmp ts s l t).0 (ids_stood s t c),
    λ c. ids_stand s t ((listed by_subject from_subject (λ _. refl) key_cmp ts s l t).1 c),
  );
}
