-- Whether a triple is in a graph, and whether two lists of triples are equal, by their tests.
use Rattle.std.proofs.Common.{◌≡◌, ◌∙◌, Bool, true, false, ◌&&◌, ◌||◌, List, [], ◌∷◌, refl, sym, ap, subst, arith, inl, inr}
use lib.Pointwise.{pointwise}
use Rattle.std.specs.Prelude.{◌↔◌, IsTrue}
use Rattle.std.specs.List.{Contains}
use Rattle.std.specs.Ordering.{eq_by_cmp, is_eq}
use Rattle.std.specs.Cmp.{tied_itself}
use Rattle.std.specs.declared.cmp.Ordering.{Ordering}
use Rattle.std.specs.declared.cmp.Ordering.TheVariants.{Less, Equal, Greater}
use Rattle.rdf_model.specs.declared.ids.Ids.{Ids}
use Rattle.rdf_model.specs.declared.term.Term.{Term}
use Rattle.rdf_model.specs.declared.triple.Triple.{Triple}
use Rattle.rdf_model.specs.Numbers.{AreNumbered, IsNumbering, graph_of, triple_at}
use Rattle.rdf_model.specs.Orders.{triple_exact, triple_total}
use Rattle.rdf_model.specs.Terms.{triple_cmp}
use Rattle.collections.specs.Ordered.{has_item}
use Rattle.collections.proofs.Members.{has_cases, has_equal, has_tail}
use Rattle.triple_index.specs.Changes.{IsNumbered}
use Rattle.follower.proofs.Members.{in_graph, numbered_at, of_graph, same_ids}

tied : (o : Ordering) → is_eq o ≡ true → o ≡ Equal
tied Less e = cc
tied Equal e = refl
tied Greater e = cc

same_triple : (t u : Triple) → eq_by_cmp triple_cmp t u ≡ true → t ≡ u
same_triple t u h = triple_exact t u (tied (triple_cmp t u) h)

triple_itself : (t : Triple) → eq_by_cmp triple_cmp t t ≡ true
triple_itself t = ap is_eq (tied_itself triple_total t)

both : (a b : Bool) → (a && b) ≡ true → (a ≡ true) × (b ≡ true)
both true true h = (refl, refl)
both true false h = cc
both false b h = cc

joined : (a b : Bool) → a ≡ true → b ≡ true → (a && b) ≡ true
joined true b h k = k
joined false b h k = cc

pub same_triples : (xs ys : List Triple) → pointwise (eq_by_cmp triple_cmp) xs ys ≡ true → xs ≡ ys
same_triples [] [] h = refl
same_triples [] (y ∷ ys) h = cc
same_triples (x ∷ xs) [] h = cc
same_triples (x ∷ xs) (y ∷ ys) h =
    let p = both (eq_by_cmp triple_cmp x y) (pointwise (eq_by_cmp triple_cmp) xs ys) h in
    ap (λ z. z ∷ xs) (same_triple x y p.0) ∙ ap (λ zs. y ∷ zs) (same_triples xs ys p.1)

pub triples_themselves : (xs : List Triple) → pointwise (eq_by_cmp triple_cmp) xs xs ≡ true
triples_themselves [] = refl
triples_themselves (x ∷ xs) = joined (eq_by_cmp triple_cmp x x) (pointwise (eq_by_cmp triple_cmp) xs xs) (triple_itself x) (triples_themselves xs)

pub to_list : (ts : List Triple) (t : Triple) → has_item triple_cmp t ts ≡ true → Contains ts t
to_list [] t h = cc
to_list (u ∷ us) t h = elim (eq_by_cmp triple_cmp u t) as (λ b. eq_by_cmp triple_cmp u t ≡ b → (b || has_item triple_cmp t us) ≡ true → Contains (u ∷ us) t) [
  | true ↦ λ e g. has_equal u us t (same_triple u t e)
  | false ↦ λ e g. has_tail u us t (to_list us t g)
] refl h

or_last : (a b : Bool) → b ≡ true → (a || b) ≡ true
or_last true b h = refl
or_last false b h = h

pub to_test : (ts : List Triple) (t : Triple) → Contains ts t → has_item triple_cmp t ts ≡ true
to_test [] t c = absurd (omega arith)
to_test (u ∷ us) t c = elim (has_cases u us t c) [
  | inl e ↦ ap (λ b. b || has_item triple_cmp t us) (subst (λ (x : Triple). eq_by_cmp triple_cmp u x ≡ true) e (triple_itself u))
  | inr d ↦ or_last (eq_by_cmp triple_cmp u t) (has_item triple_cmp t us) (to_test us t d)
]

-- graphs with the same members have the same tests
same_bools : (a b : Bool) → (a ≡ true → b ≡ true) → (b ≡ true → a ≡ true) → a ≡ b
same_bools true b f g = sym (f refl)
same_bools false true f g = g refl
same_bools false false f g = refl

pub same_tests : (g h : List Triple) → ((t : Triple) → Contains g t ↔ Contains h t) → (t : Triple) → has_item triple_cmp t g ≡ has_item triple_cmp t h
same_tests g h same t = same_bools (has_item triple_cmp t g) (has_item triple_cmp t h) (λ e. to_test h t ((same t).0 (to_list g t e))) (λ e. to_test g t ((same t).1 (to_list h t e)))

-- a test by the numbers of a triple is one of the graph
pub tells : (terms : List Term) (ids : List Ids) (i : Ids) (t : Triple) (b : Bool) → IsNumbering terms → AreNumbered terms ids → IsNumbered terms i → triple_at terms i ≡ t → IsTrue b ↔ Contains ids i →
    b ≡ has_item triple_cmp t (graph_of terms ids)
tells terms ids i t b k a n e there =
    same_bools b (has_item triple_cmp t (graph_of terms ids))
    (λ h. to_test (graph_of terms ids) t (subst (λ (u : Triple). Contains (graph_of terms ids) u) e (in_graph terms ids i (there.0 h))))
    (λ h.
    let r = of_graph terms ids t (to_list (graph_of terms ids) t h) in
    let same : r.0 ≡ i = same_ids terms k r.0 i (numbered_at terms ids r.0 a r.1) n (r.2 ∙ sym e) in
    there.1 (subst (λ (j : Ids). Contains ids j) same r.1))
