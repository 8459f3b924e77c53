-- The graph after a commit, by its record.
use Rattle.std.proofs.Common.{◌≡◌, ◌∙◌, ℕ, Bool, true, false, cond, not, ◌&&◌, ◌||◌, List, [], ◌∷◌, refl, sym, ap}
use Rattle.std.specs.List.{Contains, filter, list_all}
use Rattle.std.specs.Ordering.{eq_by_cmp}
use Rattle.collections.specs.Ordered.{IsAscending, has_item, with_item, without_item}
use Rattle.collections.proofs.Ascending.{IsAscending-with_item, IsAscending-without_item}
use Rattle.collections.proofs.Members.{has_head, has_tail, same_lists}
use Rattle.rdf_model.specs.declared.triple.Triple.{Triple}
use Rattle.rdf_model.specs.Graphs.{after, lacking, with_each}
use Rattle.rdf_model.specs.Orders.{triple_total}
use Rattle.rdf_model.specs.Terms.{triple_cmp}
use Rattle.store_model.specs.declared.commit.Transaction.{Transaction}
use Rattle.store_model.proofs.SetMembers.{member-filter, member-with_item, member-without_item, same_member}
use Rattle.commit_core.specs.Logged.{record_of}
use Rattle.commit_core.specs.Restored.{fits_record, without_each}
use Rattle.follower.proofs.Tests.{to_list, to_test}

abbrev has : List Triple → Triple → Bool
has g t = has_item triple_cmp t g

-- order
pub ascends_without : (g ts : List Triple) → IsAscending triple_cmp g → IsAscending triple_cmp (without_each g ts)
ascends_without g [] a = a
ascends_without g (t ∷ ts) a = ascends_without (without_item triple_cmp t g) ts (IsAscending-without_item triple_total t g a)

pub ascends_with : (g ts : List Triple) → IsAscending triple_cmp g → IsAscending triple_cmp (with_each g ts)
ascends_with g [] a = a
ascends_with g (t ∷ ts) a = ascends_with (with_item triple_cmp t g) ts (IsAscending-with_item triple_total t g a)

-- members of what is taken out and put in
in_lacking : (g h : List Triple) (t : Triple) → has (lacking g h) t ≡ (has g t && not (has h t))
in_lacking g h t = member-filter triple_total (λ u. not (has h u)) t g (λ u e. ap not (sym (same_member triple_total u t h e)))

move_or : (a b c : Bool) → (b || (a || c)) ≡ ((a || b) || c)
move_or true true c = refl
move_or true false c = refl
move_or false true c = refl
move_or false false c = refl

in_with : (g ts : List Triple) (t : Triple) → has (with_each g ts) t ≡ (has ts t || has g t)
in_with g [] t = refl
in_with g (u ∷ us) t = in_with (with_item triple_cmp u g) us t ∙ (ap (λ b. has us t || b) (member-with_item triple_total u t g) ∙ move_or (eq_by_cmp triple_cmp u t) (has us t) (has g t))

not_both : (a b c : Bool) → (not b && (not a && c)) ≡ (not (a || b) && c)
not_both true true c = refl
not_both true false c = refl
not_both false true c = refl
not_both false false c = refl

in_without : (g ts : List Triple) (t : Triple) → IsAscending triple_cmp g → has (without_each g ts) t ≡ (not (has ts t) && has g t)
in_without g [] t a = refl
in_without g (u ∷ us) t a =
    in_without (without_item triple_cmp u g) us t (ascends_without g (u ∷ []) a) ∙ (ap (λ b. not (has us t) && b) (member-without_item triple_total u t g a) ∙ not_both (eq_by_cmp triple_cmp u t) (has us t) (has g t))

same_by_test : (xs ys : List Triple) → IsAscending triple_cmp xs → IsAscending triple_cmp ys → ((t : Triple) → has xs t ≡ has ys t) → xs ≡ ys
same_by_test xs ys a b e = same_lists triple_cmp triple_total xs ys a b (λ t. (λ c. to_list ys t (sym (e t) ∙ to_test xs t c), λ c. to_list xs t (e t ∙ to_test ys t c)))

-- by the triples that the one lacks, and those that the other does
other_graph : (a b : Bool) → ((b && not a) || (not (a && not b) && a)) ≡ b
other_graph true true = refl
other_graph true false = refl
other_graph false true = refl
other_graph false false = refl

pub graph_made : (g h : List Triple) → IsAscending triple_cmp g → IsAscending triple_cmp h → with_each (without_each g (lacking g h)) (lacking h g) ≡ h
graph_made g h ag ah = same_by_test (with_each (without_each g (lacking g h)) (lacking h g)) h (ascends_with (without_each g (lacking g h)) (lacking h g) (ascends_without g (lacking g h) ag)) ah (λ t.
    in_with (without_each g (lacking g h)) (lacking h g) t
    ∙ ((λ i. in_lacking h g t i || in_without g (lacking g h) t ag i)
    ∙ (ap (λ b. (has h t && not (has g t)) || (not b && has g t)) (in_lacking g h t) ∙ other_graph (has g t) (has h t))))

-- triples that ascend, put in one after another
or_false : (a : Bool) → (a || false) ≡ a
or_false true = refl
or_false false = refl

pub in_order : (ts : List Triple) → IsAscending triple_cmp ts → with_each [] ts ≡ ts
in_order ts a = same_by_test (with_each [] ts) ts (ascends_with [] ts tt) a (λ t. in_with [] ts t ∙ or_false (has ts t))

-- the record fits
all_in : (g h ts : List Triple) → ((t : Triple) → Contains ts t → has g t ≡ true) → list_all (λ t. has g t) (filter (λ t. not (has h t)) ts) ≡ true
all_in g h [] f = refl
all_in g h (t ∷ ts) f = elim (has h t) as (λ b. list_all (λ u. has g u) (cond (not b) (t ∷ filter (λ u. not (has h u)) ts) (filter (λ u. not (has h u)) ts)) ≡ true) [
  | true ↦ all_in g h ts (λ u c. f u (has_tail t ts u c))
  | false ↦ ap (λ b. b && list_all (λ u. has g u) (filter (λ u. not (has h u)) ts)) (f t (has_head t ts)) ∙ all_in g h ts (λ u c. f u (has_tail t ts u c))
]

none_in : (g ts : List Triple) → list_all (λ t. not (has g t)) (filter (λ t. not (has g t)) ts) ≡ true
none_in g [] = refl
none_in g (t ∷ ts) = elim (has g t) as (λ b. has g t ≡ b → list_all (λ u. not (has g u)) (cond (not b) (t ∷ filter (λ u. not (has g u)) ts) (filter (λ u. not (has g u)) ts)) ≡ true) [
  | true ↦ λ e. none_in g ts
  | false ↦ λ e. ap (λ b. not b && list_all (λ u. not (has g u)) (filter (λ u. not (has g u)) ts)) e ∙ none_in g ts
] refl

pub record_fits : (g : List Triple) (n : ℕ) (x : Transaction) → fits_record g (record_of g n x) ≡ true
record_fits g n x = (λ i. all_in g (after g x.net) g (λ t c. to_test g t c) i && list_all (λ t. not (has g t)) (lacking (after g x.net) g)) ∙ none_in g (after g x.net)
