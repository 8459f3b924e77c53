-- Two orders of the same triples stay so, with one triple more or less.
use Rattle.std.proofs.Common.{◌≡◌, ◌∙◌, List, refl, sym, subst, ap, inl, inr}
use Rattle.std.specs.List.{Contains}
use Rattle.std.specs.declared.cmp.Ordering.{Ordering}
use Rattle.std.specs.declared.cmp.Ordering.TheVariants.{Equal}
use Rattle.std.specs.Cmp.{IsTotalOrder}
use Rattle.collections.specs.Ordered.{IsAscending, with_item, without_item}
use Rattle.collections.proofs.Ascending.{IsAscending-with_item, IsAscending-without_item}
use Rattle.collections.proofs.Members.{with_cases, with_old, with_new, without_old, without_new, without_gone}
use Rattle.rdf_model.specs.declared.ids.Ids.{Ids}
use Rattle.triple_index.specs.declared.key.Key.{Key}
use Rattle.triple_index.specs.Keys.{key_cmp, by_subject, by_predicate, by_object, from_subject, from_predicate, from_object}
use Rattle.triple_index.specs.Orders.{key_total, key_exact}
use Rattle.triple_index.specs.Sets.{AreOne}

module _ {T K : Type 0} (R : K → K → Ordering) (total : IsTotalOrder R) (exact : (a b : K) → R a b ≡ Equal → a ≡ b)
    (f g : T → K) (of_f of_g : K → T) (undo_f : (t : T) → of_f (f t) ≡ t) (undo_g : (t : T) → of_g (g t) ≡ t) where
  with_one : (x t : T) (ks ls : List K) → (Contains ks (f t) → Contains ls (g t)) → Contains (with_item R (f x) ks) (f t) → Contains (with_item R (g x) ls) (g t)
  with_one x t ks ls k c = elim (with_cases R (f x) ks (f t) c) [
    | inl e ↦ let same : x ≡ t = sym (undo_f x) ∙ ap of_f e ∙ undo_f t in subst (λ (w : T). Contains (with_item R (g x) ls) (g w)) same (with_new R total exact (g x) ls)
    | inr d ↦ with_old R (g x) ls (g t) (k d)
  ]

  without_one : (x t : T) (ks ls : List K) → IsAscending R ks → (Contains ks (f t) → Contains ls (g t)) → Contains (without_item R (f x) ks) (f t) → Contains (without_item R (g x) ls) (g t)
  without_one x t ks ls a k c = without_new R total exact (g x) ls (g t) (k (without_old R (f x) ks (f t) c))
      (λ e. let same : x ≡ t = sym (undo_g x) ∙ ap of_g e ∙ undo_g t in without_gone R total exact (f x) ks a (subst (λ (w : T). Contains (without_item R (f x) ks) (f w)) (sym same) c))

pub one_with : (x : Ids) (s p o : List Key) → AreOne s p o → AreOne (with_item key_cmp (by_subject x) s) (with_item key_cmp (by_predicate x) p) (with_item key_cmp (by_object x) o)
one_with x s p o a = record {
  first = IsAscending-with_item key_total (by_subject x) s a.first;
  second = IsAscending-with_item key_total (by_predicate x) p a.second;
  third = IsAscending-with_item key_total (by_object x) o a.third;
  in_second = λ t. (with_one key_cmp key_total key_exact by_subject by_predicate from_subject from_predicate (λ _. refl) (λ _. refl) x t s p (λ c. (a.in_second t).0 c), with_one key_cmp key_total key_exact by_predicate by_subject from_predicate from_subject (λ _. refl) (λ _. refl) x t p s (λ c. (a.in_second t).1 c));
  in_third = λ t. (with_one key_cmp key_total key_exact by_subject by_object from_subject from_object (λ _. refl) (λ _. refl) x t s o (λ c. (a.in_third t).0 c), with_one key_cmp key_total key_exact by_object by_subject from_object from_subject (λ _. refl) (λ _. refl) x t o s (λ c. (a.in_third t).1 c));
}

pub one_without : (x : Ids) (s p o : List Key) → AreOne s p o → AreOne (without_item key_cmp (by_subject x) s) (without_item key_cmp (by_predicate x) p) (without_item key_cmp (by_object x) o)
one_without x s p o a = record {
  first = IsAscending-without_item key_total (by_subject x) s a.first;
  second = IsAscending-without_item key_total (by_predicate x) p a.second;
  third = IsAscending-without_item key_total (by_object x) o a.third;
  in_second = λ t. (without_one key_cmp key_total key_exact by_subject by_predicate from_subject from_predicate (λ _. refl) (λ _. refl) x t s p a.first (λ c. (a.in_second t).0 c), without_one key_cmp key_total key_exact by_predicate by_subject from_predicate from_subject (λ _. refl) (λ _. refl) x t p s a.second (λ c. (a.in_second t).1 c));
  in_third = λ t. (without_one key_cmp key_total key_exact by_subject by_object from_subject from_object (λ _. refl) (λ _. refl) x t s o a.first (λ c. (a.in_third t).0 c), without_one key_cmp key_total key_exact by_object by_subject from_object from_subject (λ _. refl) (λ _. refl) x t o s a.third (λ c. (a.in_third t).1 c));
}

-- the same of lists that are told by equations
pub one_with_as : (x : Ids) (s p o s' p' o' : List Key) → AreOne s p o → s' ≡ with_item key_cmp (by_subject x) s → p' ≡ with_item key_cmp (by_predicate x) p → o' ≡ with_item key_cmp (by_object x) o → AreOne s' p' o'
one_with_as x s p o s' p' o' a e f g = subst (λ (l : List Key). AreOne l p' o') (sym e) (subst (λ (l : List Key). AreOne (with_item key_cmp (by_subject x) s) l o') (sym f) (subst (λ (l : List Key). AreOne (with_item key_cmp (by_subject x) s) (with_item key_cmp (by_predicate x) p) l) (sym g) (one_with x s p o a)))

pub one_without_as : (x : Ids) (s p o s' p' o' : List Key) → AreOne s p o → s' ≡ without_item key_cmp (by_subject x) s → p' ≡ without_item key_cmp (by_predicate x) p → o' ≡ without_item key_cmp (by_object x) o → AreOne s' p' o'
one_without_as x s p o s' p' o' a e f g = subst (λ (l : List Key). AreOne l p' o') (sym e) (subst (λ (l : List Key). AreOne (without_item key_cmp (by_subject x) s) l o') (sym f) (subst (λ (l : List Key). AreOne (without_item key_cmp (by_subject x) s) (without_item key_cmp (by_predicate x) p) l) (sym g) (one_without x s p o a)))
