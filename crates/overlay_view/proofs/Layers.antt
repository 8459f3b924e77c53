-- The triples that changes add and those that they remove make the set after them.
use Rattle.std.proofs.Common.{◌≡◌, List, [], ◌∷◌, refl, sym, subst, arith, inl, inr}
use Rattle.std.specs.Prelude.{◌⊎◌, ◌↔◌, map}
use Rattle.std.specs.List.{Contains}
use Rattle.std.specs.declared.cmp.Ordering.TheVariants.{Less, Equal, Greater}
use Rattle.std.specs.Cmp.{tied_itself}
use Rattle.collections.specs.Ordered.{IsAscending, with_item, without_item, has_item}
use Rattle.collections.proofs.Ascending.{IsAscending-with_item, IsAscending-without_item}
use Rattle.collections.proofs.Members.{with_cases, with_old, with_new, without_old, without_new, without_gone}
use Rattle.rdf_model.specs.declared.ids.Ids.{Ids}
use Rattle.triple_index.specs.declared.change.NumberedChange.{NumberedChange}
use Rattle.triple_index.specs.declared.change.NumberedChange.TheVariants.{Add, Remove}
use Rattle.triple_index.specs.Keys.{ids_cmp}
use Rattle.triple_index.specs.IdsOrder.{ids_total, ids_exact}
use Rattle.triple_index.specs.Changes.{after_ids}
use Rattle.overlay_view.specs.Overlays.{IsChanged, IsAfter, opposite, overlaid}
use Rattle.overlay_view.proofs.Lasting.{IsLaid, has_true, laid_of, of_laid, not_true, left_of}

same_or_not : (u t : Ids) → (u ≡ t) ⊎ (u ≡ t → ⊥)
same_or_not u t = elim (ids_cmp u t) as (λ c. ids_cmp u t ≡ c → (u ≡ t) ⊎ (u ≡ t → ⊥)) [
  | Less ↦ λ h. inr (λ e. let k : ids_cmp u t ≡ Equal = subst (λ (w : Ids). ids_cmp u w ≡ Equal) e (tied_itself ids_total u) in cc (h, k))
  | Equal ↦ λ h. inl (ids_exact u t h)
  | Greater ↦ λ h. inr (λ e. let k : ids_cmp u t ≡ Equal = subst (λ (w : Ids). ids_cmp u w ≡ Equal) e (tied_itself ids_total u) in cc (h, k))
] refl

-- in the set beneath and not removed, or added
abbrev pub Stands : (Ids → Type 0) → List Ids → List Ids → Ids → Type 0
Stands P added removed t = (P t × (Contains removed t → ⊥)) ⊎ Contains added t

module _ (P : Ids → Type 0) (added removed : List Ids) (a : IsAscending ids_cmp added) (r : IsAscending ids_cmp removed) where
  add_to : (u t : Ids) → IsChanged (Stands P added removed) (Add u) t → Stands P (with_item ids_cmp u added) (without_item ids_cmp u removed) t
  add_to u t c = elim c [
    | inl e ↦ inr (subst (λ (w : Ids). Contains (with_item ids_cmp u added) w) e (with_new ids_cmp ids_total ids_exact u added))
    | inr s ↦ elim s [ inl p ↦ inl (p.0, λ d. p.1 (without_old ids_cmp u removed t d)) | inr d ↦ inr (with_old ids_cmp u added t d) ]
  ]

  add_from : (u t : Ids) → Stands P (with_item ids_cmp u added) (without_item ids_cmp u removed) t → IsChanged (Stands P added removed) (Add u) t
  add_from u t s = elim s [
    | inl p ↦ elim (same_or_not u t) [ inl e ↦ inl e | inr n ↦ inr (inl (p.0, λ d. p.1 (without_new ids_cmp ids_total ids_exact u removed t d n))) ]
    | inr d ↦ elim (with_cases ids_cmp u added t d) [ inl e ↦ inl e | inr k ↦ inr (inr k) ]
  ]

  remove_to : (u t : Ids) → IsChanged (Stands P added removed) (Remove u) t → Stands P (without_item ids_cmp u added) (with_item ids_cmp u removed) t
  remove_to u t c = elim c.1 [
    | inl p ↦ inl (p.0, λ d. elim (with_cases ids_cmp u removed t d) [ inl e ↦ c.0 e | inr k ↦ p.1 k ])
    | inr d ↦ inr (without_new ids_cmp ids_total ids_exact u added t d c.0)
  ]

  remove_from : (u t : Ids) → Stands P (without_item ids_cmp u added) (with_item ids_cmp u removed) t → IsChanged (Stands P added removed) (Remove u) t
  remove_from u t s = elim s [
    | inl p ↦ (λ e. p.1 (subst (λ (w : Ids). Contains (with_item ids_cmp u removed) w) e (with_new ids_cmp ids_total ids_exact u removed)), inl (p.0, λ d. p.1 (with_old ids_cmp u removed t d)))
    | inr d ↦ (λ e. without_gone ids_cmp ids_total ids_exact u added a (subst (λ (w : Ids). Contains (without_item ids_cmp u added) w) (sym e) d), inr (without_old ids_cmp u added t d))
  ]

-- what holds alike before changes holds alike after them
changed_alike : (P Q : Ids → Type 0) → ((t : Ids) → P t ↔ Q t) → (c : NumberedChange) (t : Ids) → IsChanged P c t ↔ IsChanged Q c t
changed_alike P Q e (Add u) t = (λ c. elim c [ inl d ↦ inl d | inr d ↦ inr ((e t).0 d) ], λ c. elim c [ inl d ↦ inl d | inr d ↦ inr ((e t).1 d) ])
changed_alike P Q e (Remove u) t = (λ c. (c.0, (e t).0 c.1), λ c. (c.0, (e t).1 c.1))

after_alike : (P Q : Ids → Type 0) → ((t : Ids) → P t ↔ Q t) → (cs : List NumberedChange) (t : Ids) → IsAfter P cs t ↔ IsAfter Q cs t
after_alike P Q e [] t = e t
after_alike P Q e (c ∷ cs) t = after_alike (IsChanged P c) (IsChanged Q c) (changed_alike P Q e c) cs t

then' : {A B C : Type 0} → A ↔ B → B ↔ C → A ↔ C
then' p q = (λ a. q.0 (p.0 a), λ c. p.1 (q.1 c))

stands_after : (P : Ids → Type 0) (added removed : List Ids) → IsAscending ids_cmp added → IsAscending ids_cmp removed → (cs : List NumberedChange) (t : Ids) →
    Stands P (after_ids added cs) (after_ids removed (map opposite cs)) t ↔ IsAfter (Stands P added removed) cs t
stands_after P added removed a r [] t = (λ s. s, λ s. s)
stands_after P added removed a r (Add u ∷ cs) t = then'
    (stands_after P (with_item ids_cmp u added) (without_item ids_cmp u removed) (IsAscending-with_item ids_total u added a) (IsAscending-without_item ids_total u removed r) cs t)
    (after_alike (Stands P (with_item ids_cmp u added) (without_item ids_cmp u removed)) (IsChanged (Stands P added removed) (Add u)) (λ v. (add_from P added removed a r u v, add_to P added removed a r u v)) cs t)
stands_after P added removed a r (Remove u ∷ cs) t = then'
    (stands_after P (without_item ids_cmp u added) (with_item ids_cmp u removed) (IsAscending-without_item ids_total u added a) (IsAscending-with_item ids_total u removed r) cs t)
    (after_alike (Stands P (without_item ids_cmp u added) (with_item ids_cmp u removed)) (IsChanged (Stands P added removed) (Remove u)) (λ v. (remove_from P added removed a r u v, remove_to P added removed a r u v)) cs t)

laid_stands : (base added removed : List Ids) (t : Ids) → Contains (overlaid base added removed) t ↔ Stands (Contains base) added removed t
unfolding IsLaid
laid_stands base added removed t = (
  λ c. elim (laid_of base added removed t c) [ inl d ↦ inl (d.0, λ r. not_true (has_item ids_cmp t removed) d.1 (has_true t removed r)) | inr d ↦ inr d ],
  λ s. of_laid base added removed t (elim s [ inl d ↦ inl (d.0, left_of t removed d.1) | inr d ↦ inr d ]),
)

nothing_off : (base : List Ids) (t : Ids) → Stands (Contains base) [] [] t → Contains base t
nothing_off base t s = elim s [ inl d ↦ d.0 | inr d ↦ absurd (omega arith) ]

nothing_on : (base : List Ids) (t : Ids) → Contains base t → Stands (Contains base) [] [] t
nothing_on base t c = inl (c, λ d. omega arith)

-- the overlay of what changes add to nothing, and of what the opposite changes add, is the set after the changes
pub overlay_after : (base : List Ids) (cs : List NumberedChange) (added removed : List Ids) → added ≡ after_ids [] cs → removed ≡ after_ids [] (map opposite cs) → (t : Ids) → Contains (overlaid base added removed) t ↔ IsAfter (Contains base) cs t
overlay_after base cs added removed e f t = subst (λ (us : List Ids). Contains (overlaid base us removed) t ↔ IsAfter (Contains base) cs t) (sym e) (subst (λ (us : List Ids). Contains (overlaid base (after_ids [] cs) us) t ↔ IsAfter (Contains base) cs t) (sym f)
    (then' (laid_stands base (after_ids [] cs) (after_ids [] (map opposite cs)) t)
    (then' (stands_after (Contains base) [] [] tt tt cs t) (after_alike (Stands (Contains base) [] []) (Contains base) (λ u. (nothing_off base u, nothing_on base u)) cs t))))
