-- What a listing is of is the members of the graph, which may stand in any order; and the members of graphs by numbers.
use Rattle.std.proofs.Common.{◌≡◌, ℕ, List, [], ◌∷◌, ap, subst, arith, inl, inr}
use Rattle.std.specs.Prelude.{◌↔◌}
use Rattle.std.specs.List.{Contains}
use Rattle.collections.proofs.Members.{has_cases, has_equal, has_head, has_tail}
use Rattle.rdf_model.specs.declared.ids.Ids.{Ids}
use Rattle.rdf_model.specs.declared.term.Term.{Term}
use Rattle.rdf_model.specs.declared.triple.Triple.{Triple}
use Rattle.rdf_model.specs.Numbers.{AreNumbered, graph_of, triple_at}
use Rattle.shape_model.specs.Rows.{result_row_cmp}
use Rattle.shape_model.specs.Validation.{IsResult, Listing}
use Rattle.shape_model.specs.declared.result_row.ResultRow.{ResultRow}
use Rattle.shape_model.proofs.Covers.{cover_law}
use Rattle.shape_model.proofs.Listings.{listing_same}
use Rattle.parallel_validate.specs.Counting.{GrowsByCount, IsTargetPair}
use Rattle.parallel_validate.specs.Named.{IsNumbered}

-- graphs with the same members agree at each look, so that they have the same targets and results
module _ (g h s : List Triple) (same : (t : Triple) → Contains g t ↔ Contains h t) where
  same_result : (r : ResultRow) → IsResult g s r ↔ IsResult h s r
  same_result r = (
    λ i. let law = cover_law g h s i.0 i.1 (λ row k z w t m. same t) in (i.0, i.1, law.0.0 i.2, (law.1 r).0 i.3),
    λ i. let law = cover_law g h s i.0 i.1 (λ row k z w t m. same t) in (i.0, i.1, law.0.1 i.2, (law.1 r).1 i.3),
  )

  pub same_listing : (rows : List ResultRow) → Listing g s rows → Listing h s rows
  same_listing rows l = listing_same result_row_cmp (IsResult g s) (IsResult h s) same_result rows l

  same_pair : (e : Term × Term) → IsTargetPair g s e ↔ IsTargetPair h s e
  same_pair e = (cover_law g h s e.0 e.1 (λ row k z w t m. same t)).0

  pub same_count : (old new : ℕ) → GrowsByCount (IsTargetPair g s) old new → GrowsByCount (IsTargetPair h s) old new
  same_count old new c = (
    c.0,
    record {
      items = c.1.items;
      apart = c.1.apart;
      members = λ e. (λ i. (same_pair e).0 ((c.1.members e).0 i), λ t. (c.1.members e).1 ((same_pair e).1 t));
      count = c.1.count;
    },
    c.2,
  )

-- the triples of numbers that stand in a list are those of its graph
pub in_graph : (terms : List Term) (ids : List Ids) (i : Ids) → Contains ids i → Contains (graph_of terms ids) (triple_at terms i)
in_graph terms [] i c = absurd (omega arith)
in_graph terms (j ∷ js) i c = elim (has_cases j js i c) [
  | inl e ↦ has_equal (triple_at terms j) (graph_of terms js) (triple_at terms i) (ap (triple_at terms) e)
  | inr d ↦ has_tail (triple_at terms j) (graph_of terms js) (triple_at terms i) (in_graph terms js i d)
]

pub of_graph : (terms : List Term) (ids : List Ids) (t : Triple) → Contains (graph_of terms ids) t → (i : Ids) × Contains ids i × (triple_at terms i ≡ t)
of_graph terms [] t c = absurd (omega arith)
of_graph terms (j ∷ js) t c = elim (has_cases (triple_at terms j) (graph_of terms js) t c) [
  | inl e ↦ (j, has_head j js, e)
  | inr d ↦ let r : (i : Ids) × Contains js i × (triple_at terms i ≡ t) = of_graph terms js t d in (r.0, has_tail j js r.0 r.1, r.2)
]

graph_more : (terms : List Term) (xs ys : List Ids) → ((i : Ids) → Contains xs i → Contains ys i) → (t : Triple) → Contains (graph_of terms xs) t → Contains (graph_of terms ys) t
graph_more terms xs ys more t c =
    let r = of_graph terms xs t c in
    subst (λ (u : Triple). Contains (graph_of terms ys) u) r.2 (in_graph terms ys r.0 (more r.0 r.1))

pub same_graph : (terms : List Term) (xs ys : List Ids) → ((i : Ids) → Contains xs i ↔ Contains ys i) → (t : Triple) → Contains (graph_of terms xs) t ↔ Contains (graph_of terms ys) t
same_graph terms xs ys same t = (graph_more terms xs ys (λ i c. (same i).0 c) t, graph_more terms ys xs (λ i c. (same i).1 c) t)

-- each number of a list's triples has a term where that is so of each triple that stands in it
pub numbered_at : (terms : List Term) (ids : List Ids) (i : Ids) → AreNumbered terms ids → Contains ids i → IsNumbered terms i
numbered_at terms [] i a c = absurd (omega arith)
numbered_at terms (j ∷ js) i a c = elim (has_cases j js i c) [
  | inl e ↦ subst (λ (k : Ids). IsNumbered terms k) e a.0
  | inr d ↦ numbered_at terms js i a.1 d
]

pub all_numbered : (terms : List Term) (ids : List Ids) → ((i : Ids) → Contains ids i → IsNumbered terms i) → AreNumbered terms ids
all_numbered terms [] f = tt
all_numbered terms (j ∷ js) f = (f j (has_head j js), all_numbered terms js (λ i c. f i (has_tail j js i c)))

-- an index of numbers, which holds them in an order of its own
pub index_numbered : (terms : List Term) (ids index : List Ids) → AreNumbered terms ids → ((i : Ids) → Contains index i ↔ Contains ids i) → AreNumbered terms index
index_numbered terms ids index a same = all_numbered terms index (λ i c. numbered_at terms ids i a ((same i).0 c))

pub index_members : (terms : List Term) (ids index : List Ids) (g : List Triple) → graph_of terms ids ≡ g → ((i : Ids) → Contains index i ↔ Contains ids i) → (t : Triple) → Contains (graph_of terms index) t ↔ Contains g t
index_members terms ids index g e same t = subst (λ (h : List Triple). Contains (graph_of terms index) t ↔ Contains h t) e (same_graph terms index ids same t)
