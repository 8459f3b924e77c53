-- The set of the blank nodes that were given out.
use Rattle.std.proofs.Common.{◌≡◌, Bool, true, false, not, ◌&&◌, ◌||◌, cond, List, [], ◌∷◌, refl, sym, ap, ◌∙◌}
use Rattle.std.specs.declared.cmp.Ordering.{Ordering}
use Rattle.std.specs.declared.cmp.Ordering.TheVariants.{Less, Equal, Greater}
use Rattle.std.specs.Ordering.{eq_by_cmp, is_eq}
use Rattle.rdf_model.specs.declared.term.Term.{Term}
use Rattle.rdf_model.specs.Terms.{term_cmp}
use Rattle.rdf_model.specs.Orders.{term_exact, term_total}
use Rattle.collections.specs.Ordered.{IsAscending, has_item, with_item}
use Rattle.collections.proofs.Ascending.{IsAscending-with_item}
use Rattle.store_model.specs.Nodes.{is_blank, given_with, not_given}
use Rattle.store_model.proofs.SetMembers.{ascending-filter, member-filter, member-with_item, same_member}

abbrev has : List Term → Term → Bool
has ts t = has_item term_cmp t ts

is_equal : (o : Ordering) → is_eq o ≡ true → o ≡ Equal
is_equal Less h = cc
is_equal Equal h = refl
is_equal Greater h = cc

-- the nodes with one term more
abbrev one_more : List Term → Term → List Term
one_more given u = cond (is_blank u) (with_item term_cmp u given) given

-- by whether the term is this one, is a blank node, and stands there
by_tests : (e b c g rest : Bool) → (e ≡ true → b ≡ c) → ((cond b (e || g) g) || (c && rest)) ≡ (g || (c && (e || rest)))
by_tests true true true true rest h = refl
by_tests true true true false rest h = refl
by_tests true false false true rest h = refl
by_tests true false false false rest h = refl
by_tests true true false g rest h = let f : true ≡ false = h refl in cc
by_tests true false true g rest h = let f : false ≡ true = h refl in cc
by_tests false true c g rest h = refl
by_tests false false c g rest h = refl

same_kind : (u t : Term) → eq_by_cmp term_cmp u t ≡ true → is_blank u ≡ is_blank t
same_kind u t h = ap is_blank (term_exact u t (is_equal (term_cmp u t) h))

in_one_more : (given : List Term) (u t : Term) → has (one_more given u) t ≡ cond (is_blank u) (eq_by_cmp term_cmp u t || has given t) (has given t)
in_one_more given u t = elim (is_blank u) as (λ b. has (cond b (with_item term_cmp u given) given) t ≡ cond b (eq_by_cmp term_cmp u t || has given t) (has given t)) [
  | true ↦ member-with_item term_total u t given
  | false ↦ refl
]

or_false : (a b : Bool) → a ≡ (a || (b && false))
or_false true b = refl
or_false false true = refl
or_false false false = refl

-- a term is among them where it was, or is a blank node of the terms
pub member-given_with : (given ts : List Term) (t : Term) → has_item term_cmp t (given_with given ts) ≡ (has_item term_cmp t given || (is_blank t && has_item term_cmp t ts))
member-given_with given [] t = or_false (has given t) (is_blank t)
member-given_with given (u ∷ us) t =
    member-given_with (one_more given u) us t
    ∙ (ap (λ b. b || (is_blank t && has us t)) (in_one_more given u t) ∙ by_tests (eq_by_cmp term_cmp u t) (is_blank u) (is_blank t) (has given t) (has us t) (same_kind u t))

one_more_ascends : (given : List Term) (u : Term) → IsAscending term_cmp given → IsAscending term_cmp (one_more given u)
one_more_ascends given u a = elim (is_blank u) as (λ b. IsAscending term_cmp (cond b (with_item term_cmp u given) given)) [ true ↦ IsAscending-with_item term_total u given a | false ↦ a ]

pub ascending-given_with : (given ts : List Term) → IsAscending term_cmp given → IsAscending term_cmp (given_with given ts)
ascending-given_with given [] a = a
ascending-given_with given (u ∷ us) a = ascending-given_with (one_more given u) us (one_more_ascends given u a)

-- it is unknown where it is a blank node of the terms that wasn't given
pub member-not_given : (given ts : List Term) (t : Term) → has_item term_cmp t (not_given given ts) ≡ ((is_blank t && has_item term_cmp t ts) && not (has_item term_cmp t given))
member-not_given given ts t =
    member-filter term_total (λ u. not (has given u)) t (given_with [] ts) (λ u e. ap not (sym (same_member term_total u t given e)))
    ∙ ap (λ b. b && not (has given t)) (member-given_with [] ts t)

pub ascending-not_given : (given ts : List Term) → IsAscending term_cmp (not_given given ts)
ascending-not_given given ts = ascending-filter term_total (λ t. not (has given t)) (given_with [] ts) (ascending-given_with [] ts tt)
