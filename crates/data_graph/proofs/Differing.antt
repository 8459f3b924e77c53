-- All triples that are in exactly one of a graph and the graph after changes are triples of the changes.
use Rattle.std.proofs.Common.{◌≡◌, ◌∙◌, Bool, true, false, not, ◌&&◌, ◌||◌, cond, List, [], ◌∷◌, refl, sym, ap, subst, arith, inl, inr}
use Rattle.std.specs.Prelude.{◌↔◌, filter, map}
use Rattle.std.specs.List.{AllByRecursion, Contains}
use Rattle.rdf_model.specs.declared.change.Change.{Change}
use Rattle.rdf_model.specs.declared.change.Change.TheVariants.{Add, Remove}
use Rattle.rdf_model.specs.declared.ids.Ids.{Ids}
use Rattle.rdf_model.specs.declared.term.Term.{Term}
use Rattle.rdf_model.specs.declared.triple.Triple.{Triple}
use Rattle.rdf_model.specs.Graphs.{after, differing}
use Rattle.rdf_model.specs.Numbers.{AreNumbered, IsNumbering, graph_of, triple_at}
use Rattle.rdf_model.specs.Orders.{triple_total}
use Rattle.rdf_model.specs.Terms.{triple_cmp}
use Rattle.collections.specs.Listings.{IsListing}
use Rattle.collections.specs.Ordered.{IsAscending, has_item}
use Rattle.collections.proofs.Members.{has_cases, has_equal, has_head, has_tail, same_lists}
use Rattle.shape_model.specs.Touching.{IsChanged}
use Rattle.shape_model.proofs.Changes.{after_other}
use Rattle.store_model.specs.Store.{changed_triple}
use Rattle.store_model.proofs.Differing.{ascending-differing, member-differing}
use Rattle.triple_index.proofs.Matching.{keeps, kept_of}
use Rattle.parallel_validate.specs.Named.{IsNumbered}
use Rattle.parallel_validate.proofs.Members.{all_numbered, numbered_at}
use Rattle.triple_index.specs.Changes.{IsNumberedChange, after_ids, change_at}
use Rattle.triple_index.specs.Keys.{ids_cmp}
use Rattle.triple_index.specs.declared.change.NumberedChange.{NumberedChange}
use Rattle.triple_index.specs.declared.change.NumberedChange.TheVariants.{Add as Added, Remove as Removed}
use Rattle.data_graph.specs.DataGraphs.{KeepsIndex, triples_at}
use Rattle.data_graph.specs.Nets.{ids_changed, in_one, in_one_set, is_in_one, is_in_one_set}
use Rattle.data_graph.proofs.Changing.{index_after}
use Rattle.data_graph.proofs.Listed.{ascends, listed_after, listing, numbered_after, stands_there}
use Rattle.data_graph.proofs.Tests.{ids_test, ids_there, to_list, to_test}

in_map : {X Y : Type 0} (f : X → Y) (xs : List X) (x : X) → Contains xs x → Contains (map f xs) (f x)
in_map f [] x c = absurd (omega arith)
in_map f (y ∷ ys) x c = elim (has_cases y ys x c) [
  | inl e ↦ has_equal (f y) (map f ys) (f x) (ap f e)
  | inr d ↦ has_tail (f y) (map f ys) (f x) (in_map f ys x d)
]

-- a triple that is in both or in neither isn't in exactly one
not_one : (a b : Bool) → ((a && not b) || (b && not a)) ≡ true → (a ≡ true → b ≡ true) → (b ≡ true → a ≡ true) → ⊥
not_one true true h f k = cc
not_one true false h f k = let e = f refl in cc
not_one false true h f k = let e = k refl in cc
not_one false false h f k = cc

module _ (g : List Triple) (net : List Change) where
  of_changed : (t : Triple) → IsChanged net t → Contains (map changed_triple net) t
  of_changed t i = elim i [ inl c ↦ in_map changed_triple net (Add t) c | inr c ↦ in_map changed_triple net (Remove t) c ]

  -- what isn't changed is in both or in neither
  outside : (t : Triple) → (Contains (map changed_triple net) t → ⊥) → is_in_one g (after g net) t ≡ true → ⊥
  outside t never one =
      let same = after_other g net t (λ i. never (of_changed t i)) in
      not_one (has_item triple_cmp t g) (has_item triple_cmp t (after g net)) one
      (λ e. to_test (after g net) t (same.0 (to_list g t e)))
      (λ e. to_test g t (same.1 (to_list (after g net) t e)))

  one_changed : (t : Triple) → is_in_one g (after g net) t ≡ true → Contains (map changed_triple net) t
  one_changed t one = elim (has_item triple_cmp t (map changed_triple net)) as (λ b. has_item triple_cmp t (map changed_triple net) ≡ b → Contains (map changed_triple net) t) [
    | true ↦ λ e. to_list (map changed_triple net) t e
    | false ↦ λ e. absurd (outside t (λ c. let k = to_test (map changed_triple net) t c in cc (e, k)) one)
  ] refl

  members : (t : Triple) → Contains (in_one g (after g net) net) t ↔ Contains (differing g (after g net)) t
  members t = (
    λ c. to_list (differing g (after g net)) t (member-differing g (after g net) t ∙ (kept_of (is_in_one g (after g net)) (map changed_triple net) t c).1),
    λ c.
        let one : is_in_one g (after g net) t ≡ true = sym (member-differing g (after g net) t) ∙ to_test (differing g (after g net)) t c in
        keeps (is_in_one g (after g net)) (map changed_triple net) t (one_changed t one) one,
  )

  listed : (ts : List Triple) → IsAscending triple_cmp g → IsListing triple_cmp (Contains (in_one g (after g net) net)) ts → ts ≡ differing g (after g net)
  listed ts a l = same_lists triple_cmp triple_total ts (differing g (after g net)) l.ascending (ascending-differing g (after g net) a)
      (λ t. (λ c. (members t).0 ((l.members t).0 c), λ c. (l.members t).1 ((members t).1 c)))

-- of a graph that is told by an equation
pub net_differing : (g h : List Triple) (net : List Change) (found ts : List Triple) → IsAscending triple_cmp g → h ≡ after g net → found ≡ in_one g h net → IsListing triple_cmp (Contains found) ts → ts ≡ differing g h
net_differing g h net found ts a e f l =
    let k : IsListing triple_cmp (Contains (in_one g (after g net) net)) ts = subst (λ (us : List Triple). IsListing triple_cmp (Contains us) ts) (f ∙ ap (λ (x : List Triple). in_one g x net) e) l in
    listed g net ts a k ∙ sym (ap (differing g) e)

-- the same by number
module _ {X Y : Type 0} (f : X → Y) (p : X → Bool) (q : Y → Bool) where
  filter_map_same : (xs : List X) → ((x : X) → Contains xs x → p x ≡ q (f x)) → map f (filter p xs) ≡ filter q (map f xs)
  filter_map_same [] same = refl
  filter_map_same (x ∷ xs) same =
      let more : map f (filter p xs) ≡ filter q (map f xs) = filter_map_same xs (λ y c. same y (has_tail x xs y c)) in
      let here : p x ≡ q (f x) = same x (has_head x xs) in
      elim (p x) as (λ b. p x ≡ b → map f (cond b (x ∷ filter p xs) (filter p xs)) ≡ cond (q (f x)) (f x ∷ filter q (map f xs)) (filter q (map f xs))) [
        | true ↦ λ e. ap (λ (ys : List Y). f x ∷ ys) more ∙ sym (ap (λ b. cond b (f x ∷ filter q (map f xs)) (filter q (map f xs))) (sym here ∙ e))
        | false ↦ λ e. more ∙ sym (ap (λ b. cond b (f x ∷ filter q (map f xs)) (filter q (map f xs))) (sym here ∙ e))
      ] refl

same_tests : (a b : Bool) → (a ≡ true → b ≡ true) → (b ≡ true → a ≡ true) → a ≡ b
same_tests true b f k = sym (f refl)
same_tests false true f k = k refl
same_tests false false f k = refl

module _ (terms : List Term) (numbering : IsNumbering terms) where
  changed_at : (c : NumberedChange) → changed_triple (change_at terms c) ≡ triple_at terms (ids_changed c)
  changed_at (Added i) = refl
  changed_at (Removed i) = refl

  all_changed : (cs : List NumberedChange) → graph_of terms (map ids_changed cs) ≡ map changed_triple (map (change_at terms) cs)
  all_changed [] = refl
  all_changed (c ∷ cs) = λ k. sym (changed_at c) k ∷ all_changed cs k

  numbered_of : (c : NumberedChange) → IsNumberedChange terms c → IsNumbered terms (ids_changed c)
  numbered_of (Added i) n = n
  numbered_of (Removed i) n = n

  ids_numbered : (cs : List NumberedChange) → AllByRecursion (IsNumberedChange terms) cs → AreNumbered terms (map ids_changed cs)
  ids_numbered [] n = tt
  ids_numbered (c ∷ cs) n = (numbered_of c n.0, ids_numbered cs n.1)

  same_test : (ids : List Ids) (i : Ids) → AreNumbered terms ids → IsNumbered terms i → has_item ids_cmp i ids ≡ has_item triple_cmp (triple_at terms i) (triples_at terms ids)
  same_test ids i a n =
      let there = stands_there terms numbering ids i (triple_at terms i) a n refl in
      same_tests (has_item ids_cmp i ids) (has_item triple_cmp (triple_at terms i) (triples_at terms ids))
      (λ e. to_test (triples_at terms ids) (triple_at terms i) (there.0 (ids_there ids i e)))
      (λ e. ids_test ids i (there.1 (to_list (triples_at terms ids) (triple_at terms i) e)))

  module _ (ids later : List Ids) (cs : List NumberedChange) (a : AreNumbered terms ids) (ascending : IsAscending ids_cmp ids) (n : AllByRecursion (IsNumberedChange terms) cs) (l : later ≡ after_ids ids cs) where
    pub kept_index : KeepsIndex terms ids (map (change_at terms) cs) later
    kept_index g s x = index_after terms cs (map (change_at terms) cs) ids later g numbering n refl l ascending s x

    b : AreNumbered terms later
    b = numbered_after terms ids later (map (change_at terms) cs) a kept_index

    numbers_in_one : graph_of terms (in_one_set ids later cs) ≡ in_one (triples_at terms ids) (triples_at terms later) (map (change_at terms) cs)
    numbers_in_one =
        filter_map_same (triple_at terms) (is_in_one_set ids later) (is_in_one (triples_at terms ids) (triples_at terms later)) (map ids_changed cs) (λ i c.
        let m = numbered_at terms (map ids_changed cs) i (ids_numbered cs n) c in
        let x = same_test ids i a m in
        let y = same_test later i b m in
        λ k. (x k && not (y k)) || (y k && not (x k)))
        ∙ ap (filter (is_in_one (triples_at terms ids) (triples_at terms later))) (all_changed cs)

    pub found_numbered : (found : List Ids) → found ≡ in_one_set ids later cs → AreNumbered terms found
    found_numbered found e = all_numbered terms found (λ i there.
        numbered_at terms (map ids_changed cs) i (ids_numbered cs n) (kept_of (is_in_one_set ids later) (map ids_changed cs) i (subst (λ (is : List Ids). Contains is i) e there)).0)

    pub numbers_differing : (found : List Ids) → found ≡ in_one_set ids later cs → triples_at terms found ≡ differing (triples_at terms ids) (triples_at terms later)
    numbers_differing found f =
        net_differing (triples_at terms ids) (triples_at terms later) (map (change_at terms) cs) (graph_of terms found) (triples_at terms found) (ascends terms ids) (listed_after terms ids later (map (change_at terms) cs) a kept_index)
        (ap (graph_of terms) f ∙ numbers_in_one) (listing (graph_of terms found))
