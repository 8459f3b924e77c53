-- The nodes below a node, gathered until no further one is found.
use Rattle.std.proofs.Common.{◌≡◌, ◌<◌, ◌+◌, List, [], ◌∷◌, ◌++◌, length, map, refl, sym, subst, arith, inl, inr, length-append}
use Rattle.std.specs.List.{Contains}
use Rattle.std.proofs.lemmas.List.{length-map}
use Rattle.std.proofs.lemmas.List.Elements.{Contains-append_left, Contains-push_cases}
use Rattle.rdf_model.specs.declared.term.Term.{Term}
use Rattle.rdf_model.specs.declared.triple.Triple.{Triple}
use Rattle.shape_model.specs.Instances.{Instance}
use Rattle.shape_model.specs.Triples.{Has, IsMember}
use Rattle.shape_model.specs.Vocabulary.{rdf_type, sub_class_of}
use Rattle.shape_model.specs.Walks.{Chain}
use Rattle.shape_syntax.proofs.Pigeonholes.{AreDistinct, distinct_push, no_longer}
use Rattle.shape_syntax.proofs.Scans.{image_of, member_cases, member_contains}
use Rattle.plain_terms.specs.Finds.{Finds, IsBelow, LeadsBelow, WithSome}
use Rattle.plain_terms.proofs.FoundItems.{finds_at, finds_same}
use Rattle.plain_terms.proofs.Terms.{in_or_not}

module _ (g : List Triple) (p y : Term) where
  -- what has been gathered so far: the node itself, and nodes below it, none twice
  pub record AreBelow (found : List Term) : Type 0 where
    pub below : (x : Term) → Contains found x → IsBelow g p y x
    pub first : Contains found y
    pub distinct : AreDistinct found
    pub within : (x : Term) → IsMember found x → IsMember (y ∷ map (λ (t : Triple). t.subject) g) x

  pub below_first : AreBelow (y ∷ [])
  below_first = record {
    below = λ x c. elim (Contains-push_cases [] y x c) [ inl d ↦ absurd (omega (arith, d.1)) | inr e ↦ ([], sym e) ];
    first = (0, omega arith, refl);
    distinct = (λ w i e. i, tt);
    within = λ x i. elim i [ inl e ↦ inl e | inr j ↦ absurd j ];
  }

  pub below_more : (found : List Term) (x z : Term) → AreBelow found → (Contains found x → ⊥) → Contains found z → Has g x p z → AreBelow (found ++ x ∷ [])
  below_more found x z h apart c has = record {
    below = λ w d. elim (Contains-push_cases found x w d) [ inl k ↦ h.below w k | inr e ↦ subst (λ (v : Term). IsBelow g p y v) e (let k = h.below z c in (z ∷ k.0, (has, k.1))) ];
    first = Contains-append_left found (x ∷ []) y h.first;
    distinct = distinct_push found x h.distinct (λ i. apart (member_contains found x i));
    within = λ w i. elim (member_cases found x w i) [ inl j ↦ h.within w j | inr e ↦ inr (image_of (λ (t : Triple). t.subject) g (record { subject = x; predicate = p; object = z }) w has e) ];
  }

  -- there are no more than the node and the subjects
  pub below_few : (found : List Term) (x z : Term) → AreBelow found → (Contains found x → ⊥) → Contains found z → Has g x p z → length found < length g + 1
  below_few found x z h apart c has =
      let more = below_more found x z h apart c has in
      let le = no_longer (found ++ x ∷ []) (y ∷ map (λ (t : Triple). t.subject) g) more.distinct more.within in
      let e : length (map (λ (t : Triple). t.subject) g) ≡ length g = length-map g (λ (t : Triple). t.subject) in omega (arith, length-append found (x ∷ []))

  along : (found : List Term) → ((t : Triple) → Contains g t → t.predicate ≡ p → Contains found t.object → Contains found t.subject) → Contains found y → (x : Term) (zs : List Term) → Chain (λ a b. Has g a p b) x zs y → Contains found x
  along found closed first x [] e = subst (λ (w : Term). Contains found w) (sym e) first
  along found closed first x (z ∷ zs) k = closed (record { subject = x; predicate = p; object = z }) k.0 refl (along found closed first z zs k.1)

  pub below_all : (found : List Term) → AreBelow found → ((t : Triple) → Contains g t → LeadsBelow p found t → ⊥) → Finds (IsBelow g p y) found
  below_all found h none = record {
    members = λ x. (
      h.below x,
      λ k. along found (λ t c e above. elim (in_or_not found t.subject) [ inl d ↦ d | inr apart ↦ absurd (none t c (e, above, apart)) ]) h.first x k.0 k.1,
    );
  }

  -- a triple that leads below
  pub next_has : (found : List Term) (t : Triple) → Contains g t → LeadsBelow p found t → (x : Term) → t.subject ≡ x → Has g x p t.object
  next_has found t c h x e = subst (λ (u : Triple). Contains g u) (λ i. record { subject = e i; predicate = h.0 i; object = t.object }) c

  -- a further node is below, and there is room for it
  pub below_next : (found : List Term) (x : Term) → AreBelow found → ((t : Triple) × Contains g t × LeadsBelow p found t × (t.subject ≡ x)) → (length found < length g + 1) × AreBelow (found ++ x ∷ [])
  below_next found x h w =
      let apart : Contains found x → ⊥ = λ c. w.2.2 (subst (λ (v : Term). Contains found v) (sym w.3) c) in
      let has = next_has found w.0 w.1 w.2 x w.3 in
      (below_few found x w.0.object h apart w.2.1 has, below_more found x w.0.object h apart w.2.1 has)

pub typed_below : (g : List Triple) (class : Term) (above typed : Term) → above ≡ sub_class_of → typed ≡ rdf_type → (classes objects : List Term) → objects ≡ classes → (found result : List Term) → result ≡ found
    → Finds (IsBelow g above class) classes → Finds (WithSome objects (λ c n. Has g n typed c)) found → Finds (λ n. Instance g n class) result
typed_below g class above typed e_above e_typed classes objects e_objects found result e_result h k =
    let below : Finds (IsBelow g sub_class_of class) objects = subst (λ (p : Term). Finds (IsBelow g p class) objects) e_above (finds_at (IsBelow g above class) classes objects e_objects h) in
    let nodes : Finds (WithSome objects (λ c n. Has g n rdf_type c)) result = subst (λ (p : Term). Finds (WithSome objects (λ c n. Has g n p c)) result) e_typed (finds_at (WithSome objects (λ c n. Has g n typed c)) found result e_result k) in
    finds_same (WithSome objects (λ c n. Has g n rdf_type c)) (λ n. Instance g n class) result (λ n. (
      λ w. let b = (below.members w.0).0 w.1 in (w.0, w.2, (b.0, b.1)),
      λ i. (i.0, (below.members i.0).1 (i.2.0, i.2.1), i.1),
    )) nodes
