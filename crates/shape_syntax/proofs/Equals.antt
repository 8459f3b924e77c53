-- What a test of two terms says.
use Rattle.std.proofs.Common.{◌≡◌, Bool, true, false, not, List, [], ◌∷◌, refl, ap, subst, inl, inr}
use Rattle.std.specs.Prelude.{◌↔◌, ◌≢◌}
use Rattle.std.specs.declared.cmp.Ordering.{Ordering}
use Rattle.std.specs.declared.cmp.Ordering.TheVariants.{Less, Equal, Greater}
use Rattle.std.specs.Ordering.{eq_by_cmp, is_eq}
use Rattle.std.specs.Cmp.{tied_itself}
use Rattle.rdf_model.specs.declared.term.Term.{Term}
use Rattle.shape_model.specs.Triples.{IsMember}
use Rattle.rdf_model.specs.Terms.{term_cmp}
use Rattle.rdf_model.specs.Orders.{term_total, term_exact}

is_equal : (o : Ordering) → is_eq o ≡ true → o ≡ Equal
is_equal Less h = cc
is_equal Equal h = refl
is_equal Greater h = cc

pub same_term : (a b : Term) → (eq_by_cmp term_cmp a b ≡ true) ↔ (a ≡ b)
same_term a b = (
  λ h. term_exact a b (is_equal (term_cmp a b) h),
  λ e. subst (λ (t : Term). is_eq (term_cmp a t) ≡ true) e (ap is_eq (tied_itself term_total a)),
)

-- terms that aren't different are one
pub same_unless : (a b : Term) → (a ≢ b → ⊥) → a ≡ b
same_unless a b h = elim (eq_by_cmp term_cmp a b) as (λ (r : Bool). eq_by_cmp term_cmp a b ≡ r → a ≡ b) [
  | true ↦ λ e. (same_term a b).0 e
  | false ↦ λ e. absurd (h (λ d. let k = (same_term a b).1 d in cc))
] refl

-- a term that isn't missing among others is one of them
pub member_unless : (xs : List Term) (a : Term) → ((IsMember xs a → ⊥) → ⊥) → IsMember xs a
member_unless [] a h = absurd (h (λ i. i))
member_unless (x ∷ xs) a h = elim (eq_by_cmp term_cmp x a) as (λ (r : Bool). eq_by_cmp term_cmp x a ≡ r → IsMember (x ∷ xs) a) [
  | true ↦ λ e. inl ((same_term x a).0 e)
  | false ↦ λ e. inr (member_unless xs a (λ apart. h (λ i. elim i [ inl d ↦ (let k = (same_term x a).1 d in cc) | inr j ↦ apart j ])))
] refl

pub negated : (b : Bool) → not b ≡ true → b ≡ true → ⊥
negated true h e = cc
negated false h e = cc

pub negation : (b : Bool) → (b ≡ true → ⊥) → not b ≡ true
negation true h = absurd (h refl)
negation false h = refl
