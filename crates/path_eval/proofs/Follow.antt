-- Following one relation after another.
use Rattle.std.proofs.Common.{ℕ, List, inl, inr}
use Rattle.std.specs.Prelude.{◌⊎◌, ◌↔◌}
use Rattle.std.specs.List.{Contains}
use Rattle.std.specs.Ordering.{nat_cmp}
use Rattle.rdf_model.specs.declared.look.Look.{Look}
use Rattle.path_eval.specs.Relations.{FromSome, IsFollowed}
use Rattle.path_eval.proofs.Growing.{listing_same, adds_then, adds_same}

pub some_same : {Y : Type 0} → (xs : List ℕ) (R S : ℕ → Y → Type 0) → ((x : ℕ) (y : Y) → R x y ↔ S x y) → (y : Y) → FromSome xs R y ↔ FromSome xs S y
some_same {Y} xs R S e y = (λ h. (h.0, h.1, (e h.0 y).0 h.2), λ h. (h.0, h.1, (e h.0 y).1 h.2))

pub some_either : {Y : Type 0} → (xs : List ℕ) (R S : ℕ → Y → Type 0) → (y : Y) → (FromSome xs R y ⊎ FromSome xs S y) ↔ FromSome xs (λ x y. R x y ⊎ S x y) y
some_either {Y} xs R S y = (
  elim [ inl h ↦ (h.0, h.1, inl h.2) | inr h ↦ (h.0, h.1, inr h.2) ],
  λ h. elim h.2 [ inl r ↦ inl (h.0, h.1, r) | inr s ↦ inr (h.0, h.1, s) ],
)

some_then : {Y : Type 0} → (xs ys : List ℕ) (R : ℕ → ℕ → Type 0) (S : ℕ → Y → Type 0) → ((z : ℕ) → Contains ys z ↔ FromSome xs R z) → (y : Y) → FromSome ys S y ↔ FromSome xs (λ x y. (z : ℕ) × R x z × S z y) y
some_then {Y} xs ys R S e y = (
  λ h. let k = (e h.0).0 h.1 in (k.0, k.1, (h.0, k.2, h.2)),
  λ h. (h.2.0, (e h.2.0).1 (h.0, h.1, h.2.1), h.2.2),
)

pub followed_same : (starts : List ℕ) (R S : ℕ → ℕ → Type 0) (L M : ℕ → Look ℕ → Type 0) (old new : List (Look ℕ)) (ends : List ℕ)
    → ((x y : ℕ) → R x y ↔ S x y) → ((x : ℕ) (look : Look ℕ) → L x look ↔ M x look) → IsFollowed starts R L old new ends → IsFollowed starts S M old new ends
followed_same starts R S L M old new ends e d h = record {
  listed = listing_same nat_cmp (FromSome starts R) (FromSome starts S) (some_same starts R S e) ends h.listed;
  looks = adds_same old new (FromSome starts L) (FromSome starts M) (some_same starts L M d) h.looks;
}

module _ (starts : List ℕ) (R S : ℕ → ℕ → Type 0) (L M : ℕ → Look ℕ → Type 0) (old mid new : List (Look ℕ)) where
  -- one after the other
  pub followed_then : (middle ends : List ℕ) → IsFollowed starts R L old mid middle → IsFollowed middle S M mid new ends
      → IsFollowed starts (λ x y. (z : ℕ) × R x z × S z y) (λ x look. L x look ⊎ ((z : ℕ) × R x z × M z look)) old new ends
  followed_then middle ends h k =
      let through : (look : Look ℕ) → (FromSome starts L look ⊎ FromSome middle M look) ↔ FromSome starts (λ x look. L x look ⊎ ((z : ℕ) × R x z × M z look)) look =
      λ look. let e = some_then starts middle R M h.listed.members look in let f = some_either starts L (λ x look. (z : ℕ) × R x z × M z look) look in (
        λ i. f.0 (elim i [ inl l ↦ inl l | inr m ↦ inr (e.0 m) ]),
        λ i. elim (f.1 i) [ inl l ↦ inl l | inr m ↦ inr (e.1 m) ],
      ) in
      record {
        listed = listing_same nat_cmp (FromSome middle S) (FromSome starts (λ x y. (z : ℕ) × R x z × S z y)) (some_then starts middle R S h.listed.members) ends k.listed;
        looks = adds_same old new (λ look. FromSome starts L look ⊎ FromSome middle M look) (FromSome starts (λ x look. L x look ⊎ ((z : ℕ) × R x z × M z look))) through
            (adds_then old mid new (FromSome starts L) (FromSome middle M) h.looks k.looks);
      }
