-- Lists of the numbers of targets.
use Rattle.std.proofs.Common.{◌≡◌, ℕ, ◌+◌, ◌<◌, List, [], ◌∷◌, ◌++◌, length, map, take, get_or, sym, ap, subst, arith, inl, inr}
use Rattle.std.specs.Prelude.{◌⊎◌, ◌↔◌}
use Rattle.std.specs.List.{Contains}
use Rattle.std.specs.Ordering.{nat_cmp}
use Rattle.std.proofs.lemmas.List.Elements.{Contains-append_left, Contains-append_right}
use Rattle.collections.specs.Listings.{IsListing}
use Rattle.collections.proofs.Members.{has_cases, has_head}
use Rattle.rdf_model.specs.declared.term.Term.{Term}
use Rattle.rdf_model.specs.declared.ids.Ids.{Ids}
use Rattle.rdf_model.specs.Numbers.{term_at, triple_at, graph_of, IsNumbering, AreNumbered}
use Rattle.shape_model.specs.Triples.{Has}
use Rattle.shape_model.specs.Instances.{Instance}
use Rattle.path_eval.specs.Instances.{AreInstances}
use Rattle.path_eval.proofs.Footprints.{some_next}
use Rattle.path_eval.proofs.Growing.{adds_list}
use Rattle.path_eval.proofs.Mirrors.{found, in_range, mapped_from, mapped_to}
use Rattle.target_nodes.specs.TargetNumbers.{AreMembers}

module _ (terms : List Term) where
  pub members_same : (P Q : Term → Type 0) (xs : List ℕ) → ((t : Term) → P t ↔ Q t) → AreMembers terms P xs → AreMembers terms Q xs
  members_same P Q xs e m = record {
    members = λ n. (λ c. let k = (m.members n).0 c in (k.0, (e (term_at terms n)).0 k.1), λ h. (m.members n).1 (h.0, (e (term_at terms n)).1 h.1));
    every = λ t q. m.every t ((e t).1 q);
  }

  pub members_none : (P : Term → Type 0) (xs : List ℕ) → xs ≡ [] → ((t : Term) → P t → ⊥) → AreMembers terms P xs
  members_none P xs e none = record {
    members = λ n. (λ c. absurd (omega (arith, (subst (λ (l : List ℕ). Contains l n) e c).1)), λ h. absurd (none (term_at terms n) h.1));
    every = λ t p. absurd (none t p);
  }

  map_kept : (xs ys : List ℕ) → ((n : ℕ) → Contains xs n → Contains ys n) → (t : Term) → Contains (map (term_at terms) xs) t → Contains (map (term_at terms) ys) t
  map_kept xs ys k t c = let h = mapped_from (term_at terms) xs t c in subst (λ (u : Term). Contains (map (term_at terms) ys) u) h.2 (mapped_to (term_at terms) ys h.0 (k h.0 h.1))

  pub members_more : (P Q : Term → Type 0) (xs ys zs : List ℕ) → zs ≡ xs ++ ys → AreMembers terms P xs → AreMembers terms Q ys → AreMembers terms (λ t. P t ⊎ Q t) zs
  members_more P Q xs ys zs e m n =
      let grown : AreMembers terms (λ t. P t ⊎ Q t) (xs ++ ys) = record {
        members = λ k. let a = adds_list xs ys k in (
          λ c. elim (a.0 c) [ inl d ↦ let h = (m.members k).0 d in (h.0, inl h.1) | inr d ↦ let h = (n.members k).0 d in (h.0, inr h.1) ],
          λ h. elim h.1 [ inl p ↦ a.1 (inl ((m.members k).1 (h.0, p))) | inr q ↦ a.1 (inr ((n.members k).1 (h.0, q))) ],
        );
        every = λ t. elim [
          | inl p ↦ map_kept xs (xs ++ ys) (λ k c. Contains-append_left xs ys k c) t (m.every t p)
          | inr q ↦ map_kept ys (xs ++ ys) (λ k c. Contains-append_right xs ys k c) t (n.every t q)
        ];
      } in
      subst (λ (l : List ℕ). AreMembers terms (λ t. P t ⊎ Q t) l) (sym e) grown

  -- one declaration more
  pub next_members : {X : Type 0} → (P : X → Term → Type 0) (ts : List X) (i : ℕ) (t : X) → i < length ts → t ≡ get_or ts i t → (xs ys zs : List ℕ) → zs ≡ xs ++ ys
      → AreMembers terms (λ f. (u : X) × Contains (take i ts) u × P u f) xs → AreMembers terms (P t) ys → AreMembers terms (λ f. (u : X) × Contains (take (i + 1) ts) u × P u f) zs
  next_members {X} P ts i t lt is xs ys zs e m n =
      members_same (λ f. ((u : X) × Contains (take i ts) u × P u f) ⊎ P (get_or ts i t) f) (λ f. (u : X) × Contains (take (i + 1) ts) u × P u f) zs
      (λ f. let k = some_next (λ u. P u f) ts i t lt in (k.1, k.0))
      (members_more (λ f. (u : X) × Contains (take i ts) u × P u f) (P (get_or ts i t)) xs ys zs e m (subst (λ u. AreMembers terms (P u) ys) is n))

  -- the same in order
  pub listed_members : (P : Term → Type 0) (xs sorted : List ℕ) → AreMembers terms P xs → IsListing nat_cmp (Contains xs) sorted → IsListing nat_cmp (λ n. (n < length terms) × P (term_at terms n)) sorted
  listed_members P xs sorted m l = record { ascending = l.ascending; members = λ n. (λ c. (m.members n).0 ((l.members n).0 c), λ h. (l.members n).1 ((m.members n).1 h)) }

  pub listed_every : (P : Term → Type 0) (xs sorted : List ℕ) → AreMembers terms P xs → IsListing nat_cmp (Contains xs) sorted → (t : Term) → P t → Contains (map (term_at terms) sorted) t
  listed_every P xs sorted m l t p = map_kept xs sorted (λ n c. (l.members n).1 c) t (m.every t p)

  pub instance_members : (ids : List Ids) (class : ℕ) (xs : List ℕ) → AreInstances terms ids class xs → AreMembers terms (λ f. Instance (graph_of terms ids) f (term_at terms class)) xs
  instance_members ids class xs a = record { members = a.listed.members; every = a.every }

  module _ (numbering : IsNumbering terms) where
    pub node_members : (n : ℕ) → n < length terms → (xs : List ℕ) → xs ≡ n ∷ [] → AreMembers terms (λ f. term_at terms n ≡ f) xs
    node_members n lt xs e = subst (λ (l : List ℕ). AreMembers terms (λ f. term_at terms n ≡ f) l) (sym e) (record {
      members = λ k. (
        λ c. elim (has_cases n [] k c) [ inl same ↦ (subst (λ (m : ℕ). m < length terms) same lt, ap (term_at terms) same) | inr d ↦ absurd (omega (arith, d.1)) ],
        λ h. subst (λ (m : ℕ). Contains (n ∷ []) m) (numbering n k lt h.0 h.1) (has_head n []),
      );
      every = λ t same. subst (λ (u : Term). Contains (map (term_at terms) (n ∷ [])) u) same (has_head (term_at terms n) []);
    })

    module _ (ids : List Ids) (numbered : AreNumbered terms ids) (p : ℕ) (bound : p < length terms) where
      -- the triple of terms is one of numbers
      numbers_of : (s o : Term) → Has (graph_of terms ids) s (term_at terms p) o
          → (n : ℕ) × (m : ℕ) × (n < length terms) × (m < length terms) × Contains ids (record { subject = n; predicate = p; object = m }) × (term_at terms n ≡ s) × (term_at terms m ≡ o)
      numbers_of s o has =
          let k = found terms numbering ids numbered s (term_at terms p) o has in
          let q : k.0.predicate ≡ p = numbering k.0.predicate p k.3 bound k.6 in
          let is : k.0 ≡ record { subject = k.0.subject; predicate = p; object = k.0.object } = λ i. record { subject = k.0.subject; predicate = q i; object = k.0.object } in
          (k.0.subject, k.0.object, k.2, k.4, subst (λ (t : Ids). Contains ids t) is k.1, k.5, k.7)

      terms_of : (n m : ℕ) → Contains ids (record { subject = n; predicate = p; object = m }) → (n < length terms) × (m < length terms) × Has (graph_of terms ids) (term_at terms n) (term_at terms p) (term_at terms m)
      terms_of n m c =
          let b = in_range terms numbering ids numbered (record { subject = n; predicate = p; object = m }) c in
          (b.0, b.2, mapped_to (triple_at terms) ids (record { subject = n; predicate = p; object = m }) c)

      pub subject_members : (xs : List ℕ) → ((n : ℕ) → Contains xs n ↔ ((o : ℕ) × Contains ids (record { subject = n; predicate = p; object = o }))) → AreMembers terms (λ f. (o : Term) × Has (graph_of terms ids) f (term_at terms p) o) xs
      subject_members xs h = record {
        members = λ n. (
          λ c. let o = (h n).0 c in let t = terms_of n o.0 o.1 in (t.0, (term_at terms o.0, t.2)),
          λ has. let k = numbers_of (term_at terms n) has.1.0 has.1.1 in (h n).1 (k.1, subst (λ (m : ℕ). Contains ids (record { subject = m; predicate = p; object = k.1 })) (numbering k.0 n k.2 has.0 k.5) k.4),
        );
        every = λ f has. let k = numbers_of f has.0 has.1 in subst (λ (u : Term). Contains (map (term_at terms) xs) u) k.5 (mapped_to (term_at terms) xs k.0 ((h k.0).1 (k.1, k.4)));
      }

      pub object_members : (xs : List ℕ) → ((n : ℕ) → Contains xs n ↔ ((x : ℕ) × Contains ids (record { subject = x; predicate = p; object = n }))) → AreMembers terms (λ f. (x : Term) × Has (graph_of terms ids) x (term_at terms p) f) xs
      object_members xs h = record {
        members = λ n. (
          λ c. let x = (h n).0 c in let t = terms_of x.0 n x.1 in (t.1, (term_at terms x.0, t.2)),
          λ has. let k = numbers_of has.1.0 (term_at terms n) has.1.1 in (h n).1 (k.0, subst (λ (m : ℕ). Contains ids (record { subject = k.0; predicate = p; object = m })) (numbering k.1 n k.3 has.0 k.6) k.4),
        );
        every = λ f has. let k = numbers_of has.0 f has.1 in subst (λ (u : Term). Contains (map (term_at terms) xs) u) k.6 (mapped_to (term_at terms) xs k.1 ((h k.1).1 (k.0, k.4)));
      }

      -- what a look finds
      pub has_object : (n : ℕ) → n < length terms → ((o : ℕ) × Contains ids (record { subject = n; predicate = p; object = o })) ↔ ((o : Term) × Has (graph_of terms ids) (term_at terms n) (term_at terms p) o)
      has_object n lt = (
        λ k. (term_at terms k.0, (terms_of n k.0 k.1).2),
        λ has. let k = numbers_of (term_at terms n) has.0 has.1 in (k.1, subst (λ (m : ℕ). Contains ids (record { subject = m; predicate = p; object = k.1 })) (numbering k.0 n k.2 lt k.5) k.4),
      )

      pub has_subject : (n : ℕ) → n < length terms → ((x : ℕ) × Contains ids (record { subject = x; predicate = p; object = n })) ↔ ((x : Term) × Has (graph_of terms ids) x (term_at terms p) (term_at terms n))
      has_subject n lt = (
        λ k. (term_at terms k.0, (terms_of k.0 n k.1).2),
        λ has. let k = numbers_of has.0 (term_at terms n) has.1 in (k.0, subst (λ (m : ℕ). Contains ids (record { subject = k.0; predicate = p; object = m })) (numbering k.1 n k.3 lt k.6) k.4),
      )
