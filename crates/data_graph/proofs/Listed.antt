-- The triples that numbers stand for, each in its place: just those, ascending, and as many as there are numbers.
use Rattle.std.proofs.Common.{◌≡◌, ◌∙◌, ◌+◌, Bool, true, false, List, [], ◌∷◌, length, refl, sym, subst, arith, inl, inr}
use Rattle.std.specs.Prelude.{◌⊎◌, ◌↔◌, IsTrue, map}
use Rattle.std.specs.List.{Contains}
use Rattle.std.specs.Cmp.{tied_itself}
use Rattle.std.specs.declared.cmp.Ordering.TheVariants.{Less, Equal}
use Rattle.std.proofs.lemmas.List.{length-map}
use Rattle.std.proofs.lemmas.List.Elements.{Contains-get_or}
use Rattle.collections.specs.Listings.{IsListing}
use Rattle.collections.specs.Ordered.{IsAscending, has_item, with_item}
use Rattle.collections.proofs.Ascending.{IsAscending-with_item}
use Rattle.collections.proofs.Members.{below, has_cases, has_equal, has_head, has_tail, same_lists, with_cases, with_new, with_old}
use Rattle.page_index.proofs.Counts.{length-new}
use Rattle.rdf_model.specs.declared.change.Change.{Change}
use Rattle.rdf_model.specs.declared.change.Change.TheVariants.{Add}
use Rattle.rdf_model.specs.declared.ids.Ids.{Ids}
use Rattle.rdf_model.specs.declared.term.Term.{Term}
use Rattle.rdf_model.specs.declared.term.Term.TheVariants.{Blank}
use Rattle.rdf_model.specs.declared.triple.Triple.{Triple}
use Rattle.rdf_model.specs.Graphs.{after, with_each}
use Rattle.rdf_model.specs.Numbers.{AreNumbered, IsNumbering, graph_of, triple_at}
use Rattle.rdf_model.specs.Orders.{triple_exact, triple_total}
use Rattle.rdf_model.specs.Terms.{triple_cmp}
use Rattle.term_dict.specs.Names.{with_terms}
use Rattle.parallel_validate.specs.Named.{IsNamedTriple, IsNumbered}
use Rattle.parallel_validate.proofs.Members.{in_graph, numbered_at, of_graph}
use Rattle.triple_index.specs.IdsOrder.{ids_total}
use Rattle.triple_index.specs.Keys.{ids_cmp}
use Rattle.triple_index.specs.Patterns.{AreApart}
use Rattle.data_graph.specs.DataGraphs.{IsIndexOf, KeepsIndex, triples_at}
use Rattle.data_graph.proofs.Changing.{same_ids}
use Rattle.data_graph.proofs.Growing.{named_more}
use Rattle.data_graph.proofs.Tests.{to_list, to_test}
use Rattle.store_model.proofs.Histories.{IsAscending-after}

-- triples that are each put into its place
each_ascends : (ts g : List Triple) → IsAscending triple_cmp g → IsAscending triple_cmp (with_each g ts)
each_ascends [] g a = a
each_ascends (t ∷ ts) g a = each_ascends ts (with_item triple_cmp t g) (IsAscending-with_item triple_total t g a)

each_old : (ts g : List Triple) (w : Triple) → Contains g w → Contains (with_each g ts) w
each_old [] g w c = c
each_old (t ∷ ts) g w c = each_old ts (with_item triple_cmp t g) w (with_old triple_cmp t g w c)

each_new : (ts g : List Triple) (w : Triple) → Contains ts w → Contains (with_each g ts) w
each_new [] g w c = absurd (omega arith)
each_new (t ∷ ts) g w c = elim (has_cases t ts w c) [
  | inl e ↦ each_old ts (with_item triple_cmp t g) w (subst (λ (v : Triple). Contains (with_item triple_cmp t g) v) e (with_new triple_cmp triple_total triple_exact t g))
  | inr d ↦ each_new ts (with_item triple_cmp t g) w d
]

each_cases : (ts g : List Triple) (w : Triple) → Contains (with_each g ts) w → Contains ts w ⊎ Contains g w
each_cases [] g w c = inr c
each_cases (t ∷ ts) g w c = elim (each_cases ts (with_item triple_cmp t g) w c) [
  | inl d ↦ inl (has_tail t ts w d)
  | inr d ↦ elim (with_cases triple_cmp t g w d) [ inl e ↦ inl (has_equal t ts w e) | inr k ↦ inr k ]
]

only : (ts : List Triple) (w : Triple) → Contains (with_each [] ts) w → Contains ts w
only ts w c = elim (each_cases ts [] w c) [ inl d ↦ d | inr d ↦ absurd (omega arith) ]

pub listing : (ts : List Triple) → IsListing triple_cmp (Contains ts) (with_each [] ts)
listing ts = record { ascending = each_ascends ts [] tt; members = λ w. (only ts w, each_new ts [] w) }

pub one_listing : (ts us : List Triple) → IsListing triple_cmp (Contains ts) us → us ≡ with_each [] ts
one_listing ts us l = same_lists triple_cmp triple_total us (with_each [] ts) l.ascending (each_ascends ts [] tt) (λ w. (λ c. each_new ts [] w ((l.members w).0 c), λ c. (l.members w).1 (only ts w c)))

-- a list that ascends is the set of its triples, and the graph that is made by adding them
ascending_each : (ts : List Triple) → IsAscending triple_cmp ts → with_each [] ts ≡ ts
ascending_each ts a = same_lists triple_cmp triple_total (with_each [] ts) ts (each_ascends ts [] tt) a (λ w. (only ts w, each_new ts [] w))

after_adds : (g ts : List Triple) → after g (map Add ts) ≡ with_each g ts
after_adds g [] = refl
after_adds g (t ∷ ts) = after_adds (with_item triple_cmp t g) ts

pub after_added : (ts : List Triple) → IsAscending triple_cmp ts → after [] (map Add ts) ≡ ts
after_added ts a = after_adds [] ts ∙ ascending_each ts a

-- triples that are new and stand apart are as many more
not_there : (t : Triple) (g : List Triple) → (Contains g t → ⊥) → has_item triple_cmp t g ≡ false
not_there t g never = elim (has_item triple_cmp t g) as (λ b. has_item triple_cmp t g ≡ b → b ≡ false) [
  | true ↦ λ e. absurd (never (to_list g t e))
  | false ↦ λ e. refl
] refl

each_length : (ts g : List Triple) → AreApart ts → ((t : Triple) → Contains ts t → Contains g t → ⊥) → length (with_each g ts) ≡ length g + length ts
each_length [] g a new = omega arith
each_length (t ∷ ts) g a new =
    let one : length (with_item triple_cmp t g) ≡ length g + 1 = length-new triple_cmp triple_total t g (not_there t g (new t (has_head t ts))) in
    let more : length (with_each (with_item triple_cmp t g) ts) ≡ length (with_item triple_cmp t g) + length ts = each_length ts (with_item triple_cmp t g) a.1 (λ u c d. elim (with_cases triple_cmp t g u d) [
      | inl e ↦ a.0 (subst (λ (w : Triple). Contains ts w) (sym e) c)
      | inr k ↦ new u (has_tail t ts u c) k
    ]) in
    omega (arith, one, more)

module _ (terms : List Term) where
  pub ascends : (ids : List Ids) → IsAscending triple_cmp (triples_at terms ids)
  ascends ids = (listing (graph_of terms ids)).ascending

  pub stands : (ids : List Ids) → AreNumbered terms ids → IsIndexOf terms ids (triples_at terms ids)
  stands ids a = record { numbered = a; members = λ t. let m = (listing (graph_of terms ids)).members t in (m.1, m.0) }

  pub is_listed : (ids : List Ids) (g : List Triple) → IsAscending triple_cmp g → IsIndexOf terms ids g → triples_at terms ids ≡ g
  is_listed ids g a x = same_lists triple_cmp triple_total (triples_at terms ids) g (ascends ids) a (λ t. let m = (listing (graph_of terms ids)).members t in (λ c. (x.members t).0 (m.0 c), λ c. m.1 ((x.members t).1 c)))

  -- after changes, and where more terms are named
  pub listed_after : (ids later : List Ids) (net : List Change) → AreNumbered terms ids → KeepsIndex terms ids net later → triples_at terms later ≡ after (triples_at terms ids) net
  listed_after ids later net a keeps = is_listed later (after (triples_at terms ids) net) (IsAscending-after (triples_at terms ids) net (ascends ids)) (keeps (triples_at terms ids) (ascends ids) (stands ids a))

  pub numbered_after : (ids later : List Ids) (net : List Change) → AreNumbered terms ids → KeepsIndex terms ids net later → AreNumbered terms later
  numbered_after ids later net a keeps = (keeps (triples_at terms ids) (ascends ids) (stands ids a)).numbered

  pub listed_more : (more ts : List Term) (ids : List Ids) → more ≡ with_terms terms ts → AreNumbered terms ids → triples_at more ids ≡ triples_at terms ids
  listed_more more ts ids e a =
      let x = named_more terms more ts ids (triples_at terms ids) e (stands ids a) in
      same_lists triple_cmp triple_total (triples_at more ids) (triples_at terms ids) (listing (graph_of more ids)).ascending (ascends ids)
      (λ t. let m = (listing (graph_of more ids)).members t in (λ c. (x.members t).0 (m.0 c), λ c. m.1 ((x.members t).1 c)))

  pub numbered_more : (more ts : List Term) (ids : List Ids) → more ≡ with_terms terms ts → AreNumbered terms ids → AreNumbered more ids
  numbered_more more ts ids e a = (named_more terms more ts ids (triples_at terms ids) e (stands ids a)).numbered

  -- a triple that stands in the list is named
  pub none_unnamed : (ids : List Ids) (t : Triple) → AreNumbered terms ids → (IsNamedTriple terms t → ⊥) → has_item triple_cmp t (triples_at terms ids) ≡ false
  none_unnamed ids t a never = not_there t (triples_at terms ids) (λ c.
      let r = of_graph terms ids t (only (graph_of terms ids) t c) in
      let n = numbered_at terms ids r.0 a r.1 in
      never (subst (λ (u : Triple). IsNamedTriple terms u) r.2 (
        Contains-get_or terms r.0.subject (Blank 0 0) n.0,
        Contains-get_or terms r.0.predicate (Blank 0 0) n.1,
        Contains-get_or terms r.0.object (Blank 0 0) n.2,
      )))

  module _ (numbering : IsNumbering terms) where
    apart : (ids : List Ids) → AreNumbered terms ids → IsAscending ids_cmp ids → AreApart (graph_of terms ids)
    apart [] n a = tt
    apart (i ∷ is) n a = (
      λ c.
          let r = of_graph terms is (triple_at terms i) c in
          let same : i ≡ r.0 = same_ids terms numbering i r.0 n.0 (numbered_at terms is r.0 n.1 r.1) (sym r.2) in
          let less : ids_cmp i r.0 ≡ Less = below ids_cmp i is r.0 a.0 r.1 in
          let tied : ids_cmp i r.0 ≡ Equal = subst (λ (k : Ids). ids_cmp i k ≡ Equal) same (tied_itself ids_total i) in
          cc (less, tied),
      apart is n.1 a.1,
    )

    pub counted : (ids : List Ids) → AreNumbered terms ids → IsAscending ids_cmp ids → length (triples_at terms ids) ≡ length ids
    counted ids n a =
        let all : length (triples_at terms ids) ≡ 0 + length (graph_of terms ids) = each_length (graph_of terms ids) [] (apart ids n a) (λ t c d. omega arith) in
        let each : length (graph_of terms ids) ≡ length ids = length-map ids (triple_at terms) in
        omega (arith, all, each)

    -- a triple stands in the list where its numbers are among these
    pub stands_there : (ids : List Ids) (i : Ids) (t : Triple) → AreNumbered terms ids → IsNumbered terms i → triple_at terms i ≡ t → Contains ids i ↔ Contains (triples_at terms ids) t
    stands_there ids i t a n e = (
      λ c. each_new (graph_of terms ids) [] t (subst (λ (u : Triple). Contains (graph_of terms ids) u) e (in_graph terms ids i c)),
      λ c.
          let r = of_graph terms ids t (only (graph_of terms ids) t c) in
          let same : r.0 ≡ i = same_ids terms numbering r.0 i (numbered_at terms ids r.0 a r.1) n (r.2 ∙ sym e) in
          subst (λ (k : Ids). Contains ids k) same r.1,
    )

-- a test that is passed just by what stands in the list
pub test_is : (b : Bool) (ts : List Triple) (t : Triple) → (IsTrue b ↔ Contains ts t) → b ≡ has_item triple_cmp t ts
test_is true ts t h = sym (to_test ts t (h.0 refl))
test_is false ts t h = sym (not_there t ts (λ c. let k : false ≡ true = h.1 c in cc k))
