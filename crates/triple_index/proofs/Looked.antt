-- What a look asks for, found in the order that serves it.
use Rattle.std.proofs.Common.{◌≡◌, ℕ, List, subst}
use Rattle.std.specs.List.{Contains}
use Rattle.std.specs.Ordering.{nat_cmp}
use Rattle.collections.specs.Listings.{IsListing}
use Rattle.collections.specs.Pairs.{pair_cmp}
use Rattle.rdf_model.specs.declared.ids.Ids.{Ids}
use Rattle.rdf_model.specs.declared.look.Look.TheVariants.{Out, In}
use Rattle.rdf_model.specs.Numbers.{IsFound, IsEdge, IsJoined}
use Rattle.triple_index.specs.declared.key.Key.{Key}
use Rattle.triple_index.specs.Keys.{key_of, ids_of}
use Rattle.triple_index.specs.Sets.{AreOne}
use Rattle.triple_index.proofs.Listings.{ids_stood, ids_stand, listing_as}

abbrev triple : ℕ → ℕ → ℕ → Ids
triple x y z = record { subject = x; predicate = y; object = z }

module _ (s p o : List Key) (one : AreOne s p o) (ids : List Ids) (view : ids_of s ≡ ids) where
  pub out_listed : (x y : ℕ) (items : List ℕ) → IsListing nat_cmp (λ n. Contains s (key_of x y n)) items → IsListing nat_cmp (IsFound (Out x y) ids) items
  out_listed x y items l = subst (λ (is : List Ids). IsListing nat_cmp (IsFound (Out x y) is) items) view
      (listing_as (IsFound (Out x y) (ids_of s)) (λ n. (λ c. ids_stand s (triple x y n) c, λ c. ids_stood s (triple x y n) c)) l)

  pub in_listed : (y z : ℕ) (items : List ℕ) → IsListing nat_cmp (λ n. Contains o (key_of z y n)) items → IsListing nat_cmp (IsFound (In y z) ids) items
  in_listed y z items l = subst (λ (is : List Ids). IsListing nat_cmp (IsFound (In y z) is) items) view
      (listing_as (IsFound (In y z) (ids_of s)) (λ n. (λ c. ids_stand s (triple n y z) ((one.in_third (triple n y z)).1 c), λ c. (one.in_third (triple n y z)).0 (ids_stood s (triple n y z) c))) l)

  pub edges_listed : (x : ℕ) (items : List (ℕ × ℕ)) → IsListing pair_cmp (λ e. Contains s (key_of x e.0 e.1)) items → IsListing pair_cmp (IsEdge ids x) items
  edges_listed x items l = subst (λ (is : List Ids). IsListing pair_cmp (IsEdge is x) items) view
      (listing_as (IsEdge (ids_of s) x) (λ e. (λ c. ids_stand s (triple x e.0 e.1) c, λ c. ids_stood s (triple x e.0 e.1) c)) l)

  pub joined_listed : (y : ℕ) (items : List (ℕ × ℕ)) → IsListing pair_cmp (λ e. Contains p (key_of y e.0 e.1)) items → IsListing pair_cmp (IsJoined ids y) items
  joined_listed y items l = subst (λ (is : List Ids). IsListing pair_cmp (IsJoined is y) items) view
      (listing_as (IsJoined (ids_of s) y) (λ e. (λ c. ids_stand s (triple e.0 y e.1) ((one.in_second (triple e.0 y e.1)).1 c), λ c. (one.in_second (triple e.0 y e.1)).0 (ids_stood s (triple e.0 y e.1) c))) l)
