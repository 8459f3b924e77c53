-- Subjects and objects of the triples with a predicate.
use Rattle.std.proofs.Common.{◌≡◌, ℕ, List, map, sym, subst}
use Rattle.std.specs.Prelude.{◌↔◌}
use Rattle.std.specs.List.{Contains}
use Rattle.collections.specs.Listings.{IsListing}
use Rattle.collections.specs.Pairs.{pair_cmp}
use Rattle.rdf_model.specs.declared.ids.Ids.{Ids}
use Rattle.rdf_model.specs.Numbers.{IsJoined}
use Rattle.path_eval.proofs.Mirrors.{mapped_from, mapped_to}

module _ (ids : List Ids) (p : ℕ) (pairs qs : List (ℕ × ℕ)) (joined : IsListing pair_cmp (IsJoined ids p) pairs) (same : qs ≡ pairs) (xs : List ℕ) where
  pub first_members : xs ≡ map (λ e. e.0) qs → (n : ℕ) → Contains xs n ↔ ((o : ℕ) × Contains ids (record { subject = n; predicate = p; object = o }))
  first_members e n = subst (λ (l : List ℕ). Contains l n ↔ ((o : ℕ) × Contains ids (record { subject = n; predicate = p; object = o }))) (sym e)
      (subst (λ (l : List (ℕ × ℕ)). Contains (map (λ e. e.0) l) n ↔ ((o : ℕ) × Contains ids (record { subject = n; predicate = p; object = o }))) (sym same) (
        λ c. let k = mapped_from (λ (e : ℕ × ℕ). e.0) pairs n c in (k.0.1, subst (λ (m : ℕ). Contains ids (record { subject = m; predicate = p; object = k.0.1 })) k.2 ((joined.members k.0).0 k.1)),
        λ h. mapped_to (λ (e : ℕ × ℕ). e.0) pairs (n, h.0) ((joined.members (n, h.0)).1 h.1),
      ))

  pub second_members : xs ≡ map (λ e. e.1) qs → (n : ℕ) → Contains xs n ↔ ((x : ℕ) × Contains ids (record { subject = x; predicate = p; object = n }))
  second_members e n = subst (λ (l : List ℕ). Contains l n ↔ ((x : ℕ) × Contains ids (record { subject = x; predicate = p; object = n }))) (sym e)
      (subst (λ (l : List (ℕ × ℕ)). Contains (map (λ e. e.1) l) n ↔ ((x : ℕ) × Contains ids (record { subject = x; predicate = p; object = n }))) (sym same) (
        λ c. let k = mapped_from (λ (e : ℕ × ℕ). e.1) pairs n c in (k.0.0, subst (λ (m : ℕ). Contains ids (record { subject = k.0.0; predicate = p; object = m })) k.2 ((joined.members k.0).0 k.1)),
        λ h. mapped_to (λ (e : ℕ × ℕ). e.1) pairs (h.0, n) ((joined.members (h.0, n)).1 h.1),
      ))
