-- The nodes that chains of pairs reach from a node, gathered until no pair leads further.
use Rattle.std.proofs.Common.{◌≡◌, ◌<◌, ◌+◌, List, [], ◌∷◌, ◌++◌, length, map, refl, sym, subst, arith, inl, inr, length-append}
use Rattle.std.specs.List.{Contains}
use Rattle.std.proofs.lemmas.List.{length-map}
use Rattle.std.proofs.lemmas.List.Elements.{Contains-append_left, Contains-push_cases}
use Rattle.rdf_model.specs.declared.term.Term.{Term}
use Rattle.shape_model.specs.Triples.{IsMember}
use Rattle.shape_model.specs.Walks.{Chain}
use Rattle.shape_syntax.proofs.Pigeonholes.{AreDistinct, distinct_push, no_longer}
use Rattle.shape_syntax.proofs.Scans.{image_of, member_cases, member_contains}
use Rattle.plain_terms.specs.Finds.{Finds, WithSome}
use Rattle.plain_terms.proofs.FoundItems.{finds_at, finds_same}
use Rattle.plain_terms.proofs.Terms.{in_or_not}
use Rattle.plain_terms.specs.declared.relation.Pair.{Pair}
use Rattle.plain_terms.specs.Pairs.{HasPair, IsReached, LeadsFurther, Reaching}

-- a step more at the end of a chain
chain_push : (R : Term → Term → Type 0) (x y z : Term) (zs : List Term) → Chain R x zs y → R y z → Chain R x (zs ++ z ∷ []) z
chain_push R x y z [] e r = (subst (λ (w : Term). R w z) (sym e) r, refl)
chain_push R x y z (w ∷ ws) k r = (k.0, chain_push R w y z ws k.1 r)

module _ (pairs : List Pair) (x : Term) where
  -- what has been gathered so far: the node itself, and nodes that are reached from it, none twice
  pub record AreReached (found : List Term) : Type 0 where
    pub reached : (y : Term) → Contains found y → IsReached pairs x y
    pub first : Contains found x
    pub distinct : AreDistinct found
    pub within : (y : Term) → IsMember found y → IsMember (x ∷ map (λ (a : Pair). a.to) pairs) y

  pub reached_first : AreReached (x ∷ [])
  reached_first = record {
    reached = λ y c. elim (Contains-push_cases [] x y c) [ inl d ↦ absurd (omega (arith, d.1)) | inr e ↦ ([], e) ];
    first = (0, omega arith, refl);
    distinct = (λ w i e. i, tt);
    within = λ y i. elim i [ inl e ↦ inl e | inr j ↦ absurd j ];
  }

  reached_more : (found : List Term) (a : Pair) → AreReached found → Contains pairs a → LeadsFurther found a → AreReached (found ++ a.to ∷ [])
  reached_more found a h c further = record {
    reached = λ y d. elim (Contains-push_cases found a.to y d) [
      | inl k ↦ h.reached y k
      | inr e ↦ subst (λ (v : Term). IsReached pairs x v) e (let k = h.reached a.from further.0 in (k.0 ++ a.to ∷ [], chain_push (HasPair pairs) x a.from a.to k.0 k.1 c))
    ];
    first = Contains-append_left found (a.to ∷ []) x h.first;
    distinct = distinct_push found a.to h.distinct (λ i. further.1 (member_contains found a.to i));
    within = λ y i. elim (member_cases found a.to y i) [ inl j ↦ h.within y j | inr e ↦ inr (image_of (λ (b : Pair). b.to) pairs a y c e) ];
  }

  -- there are no more than the node and the ends of the pairs
  reached_few : (found : List Term) (a : Pair) → AreReached found → Contains pairs a → LeadsFurther found a → length found < length pairs + 1
  reached_few found a h c further =
      let more = reached_more found a h c further in
      let le = no_longer (found ++ a.to ∷ []) (x ∷ map (λ (b : Pair). b.to) pairs) more.distinct more.within in
      let e : length (map (λ (b : Pair). b.to) pairs) ≡ length pairs = length-map pairs (λ (b : Pair). b.to) in omega (arith, length-append found (a.to ∷ []))

  along : (found : List Term) → ((a : Pair) → Contains pairs a → Contains found a.from → Contains found a.to) → (w : Term) → Contains found w → (zs : List Term) (y : Term) → Chain (HasPair pairs) w zs y → Contains found y
  along found closed w c [] y e = subst (λ (v : Term). Contains found v) e c
  along found closed w c (z ∷ zs) y k = along found closed z (closed (record { from = w; to = z }) k.0 c) zs y k.1

  pub reached_all : (found : List Term) → AreReached found → ((a : Pair) → Contains pairs a → LeadsFurther found a → ⊥) → Finds (IsReached pairs x) found
  reached_all found h none = record {
    members = λ y. (
      h.reached y,
      λ k. along found (λ a c from. elim (in_or_not found a.to) [ inl d ↦ d | inr apart ↦ absurd (none a c (from, apart)) ]) x h.first k.0 y k.1,
    );
  }

  -- a further node is reached, and there is room for it
  pub reached_next : (found : List Term) (y : Term) → AreReached found → ((a : Pair) × Contains pairs a × LeadsFurther found a × (a.to ≡ y)) → (length found < length pairs + 1) × AreReached (found ++ y ∷ [])
  reached_next found y h w = (reached_few found w.0 h w.1 w.2, subst (λ (v : Term). AreReached (found ++ v ∷ [])) w.3 (reached_more found w.0 h w.1 w.2))

-- the pairs from the start of one to all that is reached from its end
pub reaching_from : (pairs : List Pair) (a : Pair) (ends slice : List Term) (found : List Pair) → slice ≡ ends → Finds (IsReached pairs a.to) ends → Finds (WithSome slice (λ to (c : Pair). c ≡ record { from = a.from; to = to })) found → Finds (Reaching pairs a) found
reaching_from pairs a ends slice found e h k =
    let are = finds_at (IsReached pairs a.to) ends slice e h in
    finds_same (WithSome slice (λ to (c : Pair). c ≡ record { from = a.from; to = to })) (Reaching pairs a) found (λ c. (
      λ w. (λ i. (w.2 i).from, subst (λ (y : Term). IsReached pairs a.to y) (λ i. (sym w.2 i).to) ((are.members w.0).0 w.1)),
      λ w. (c.to, (are.members c.to).1 w.1, λ i. record { from = w.0 i; to = c.to }),
    )) k
