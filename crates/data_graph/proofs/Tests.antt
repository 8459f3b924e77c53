-- Whether a triple is in a list, by its test, and by its numbers.
use Rattle.std.proofs.Common.{◌≡◌, Bool, true, false, ◌||◌, List, [], ◌∷◌, refl, sym, ap, subst, arith, inl, inr}
use Rattle.std.specs.Prelude.{◌↔◌, IsTrue}
use Rattle.std.specs.List.{Contains}
use Rattle.std.specs.Ordering.{eq_by_cmp, is_eq}
use Rattle.std.specs.Cmp.{tied_itself}
use Rattle.std.specs.declared.cmp.Ordering.{Ordering}
use Rattle.std.specs.declared.cmp.Ordering.TheVariants.{Less, Equal, Greater}
use Rattle.rdf_model.specs.declared.ids.Ids.{Ids}
use Rattle.rdf_model.specs.declared.triple.Triple.{Triple}
use Rattle.rdf_model.specs.Orders.{triple_exact, triple_total}
use Rattle.rdf_model.specs.Terms.{triple_cmp}
use Rattle.triple_index.specs.IdsOrder.{ids_exact, ids_total}
use Rattle.triple_index.specs.Keys.{ids_cmp}
use Rattle.collections.specs.Ordered.{has_item}
use Rattle.collections.proofs.Members.{has_cases, has_equal, has_tail}

pub is_equal : (o : Ordering) → is_eq o ≡ true → o ≡ Equal
is_equal Less e = cc
is_equal Equal e = refl
is_equal Greater e = cc

pub to_list : (ts : List Triple) (t : Triple) → has_item triple_cmp t ts ≡ true → Contains ts t
to_list [] t h = cc
to_list (u ∷ us) t h = elim (eq_by_cmp triple_cmp u t) as (λ b. eq_by_cmp triple_cmp u t ≡ b → (b || has_item triple_cmp t us) ≡ true → Contains (u ∷ us) t) [
  | true ↦ λ e g. has_equal u us t (triple_exact u t (is_equal (triple_cmp u t) e))
  | false ↦ λ e g. has_tail u us t (to_list us t g)
] refl h

pub or_last : (a b : Bool) → b ≡ true → (a || b) ≡ true
or_last true b h = refl
or_last false b h = h

pub to_test : (ts : List Triple) (t : Triple) → Contains ts t → has_item triple_cmp t ts ≡ true
to_test [] t c = absurd (omega arith)
to_test (u ∷ us) t c = elim (has_cases u us t c) [
  | inl e ↦ ap (λ b. b || has_item triple_cmp t us) (subst (λ (x : Triple). eq_by_cmp triple_cmp u x ≡ true) e (ap is_eq (tied_itself triple_total u)))
  | inr d ↦ or_last (eq_by_cmp triple_cmp u t) (has_item triple_cmp t us) (to_test us t d)
]

-- the same of numbers
pub ids_there : (is : List Ids) (i : Ids) → has_item ids_cmp i is ≡ true → Contains is i
ids_there [] i h = cc
ids_there (j ∷ js) i h = elim (eq_by_cmp ids_cmp j i) as (λ b. eq_by_cmp ids_cmp j i ≡ b → (b || has_item ids_cmp i js) ≡ true → Contains (j ∷ js) i) [
  | true ↦ λ e g. has_equal j js i (ids_exact j i (is_equal (ids_cmp j i) e))
  | false ↦ λ e g. has_tail j js i (ids_there js i g)
] refl h

pub ids_test : (is : List Ids) (i : Ids) → Contains is i → has_item ids_cmp i is ≡ true
ids_test [] i c = absurd (omega arith)
ids_test (j ∷ js) i c = elim (has_cases j js i c) [
  | inl e ↦ ap (λ b. b || has_item ids_cmp i js) (subst (λ (x : Ids). eq_by_cmp ids_cmp j x ≡ true) e (ap is_eq (tied_itself ids_total j)))
  | inr d ↦ or_last (eq_by_cmp ids_cmp j i) (has_item ids_cmp i js) (ids_test js i d)
]

pub ids_test_is : (b : Bool) (is : List Ids) (i : Ids) → (IsTrue b ↔ Contains is i) → b ≡ has_item ids_cmp i is
ids_test_is true is i h = sym (ids_test is i (h.0 refl))
ids_test_is false is i h = elim (has_item ids_cmp i is) as (λ b. has_item ids_cmp i is ≡ b → false ≡ b) [
  | true ↦ λ e. h.1 (ids_there is i e)
  | false ↦ λ e. refl
] refl
