-- Changes by number make of the numbers of a graph those of the graph after the changes.
use Rattle.std.proofs.Common.{◌≡◌, ◌∙◌, List, [], ◌∷◌, sym, ap, subst, inl, inr}
use Rattle.std.specs.Prelude.{◌↔◌, map}
use Rattle.std.specs.List.{AllByRecursion, Contains}
use Rattle.collections.specs.Ordered.{IsAscending, with_item, without_item}
use Rattle.collections.proofs.Ascending.{IsAscending-with_item, IsAscending-without_item}
use Rattle.collections.proofs.Members.{with_cases, with_new, with_old, without_gone, without_new, without_old}
use Rattle.rdf_model.specs.declared.change.Change.{Change}
use Rattle.rdf_model.specs.declared.ids.Ids.{Ids}
use Rattle.rdf_model.specs.declared.term.Term.{Term}
use Rattle.rdf_model.specs.declared.triple.Triple.{Triple}
use Rattle.rdf_model.specs.Graphs.{after}
use Rattle.rdf_model.specs.Numbers.{IsNumbering, graph_of, triple_at}
use Rattle.rdf_model.specs.Orders.{triple_exact, triple_total}
use Rattle.rdf_model.specs.Terms.{triple_cmp}
use Rattle.parallel_validate.specs.Named.{IsNumbered}
use Rattle.parallel_validate.proofs.Members.{all_numbered, in_graph, numbered_at, of_graph}
use Rattle.triple_index.specs.Changes.{IsNumberedChange, after_ids, change_at}
use Rattle.triple_index.specs.IdsOrder.{ids_exact, ids_total}
use Rattle.triple_index.specs.Keys.{ids_cmp}
use Rattle.triple_index.specs.declared.change.NumberedChange.{NumberedChange}
use Rattle.triple_index.specs.declared.change.NumberedChange.TheVariants.{Add, Remove}
use Rattle.data_graph.specs.DataGraphs.{IsIndexOf}

-- the same as IsIndexOf, triple by triple
record Fits (terms : List Term) (ids : List Ids) (g : List Triple) : Type 0 where
  numbered : (i : Ids) → Contains ids i → IsNumbered terms i
  stands : (i : Ids) → Contains ids i → Contains g (triple_at terms i)
  has : (t : Triple) → Contains g t → (i : Ids) × Contains ids i × (triple_at terms i ≡ t)

opened : (terms : List Term) (ids : List Ids) (g : List Triple) → IsIndexOf terms ids g → Fits terms ids g
opened terms ids g x = record {
  numbered = λ i c. numbered_at terms ids i x.numbered c;
  stands = λ i c. (x.members (triple_at terms i)).0 (in_graph terms ids i c);
  has = λ t c. of_graph terms ids t ((x.members t).1 c);
}

closed : (terms : List Term) (ids : List Ids) (g : List Triple) → Fits terms ids g → IsIndexOf terms ids g
closed terms ids g f = record {
  numbered = all_numbered terms ids f.numbered;
  members = λ t. (
    λ c. let r = of_graph terms ids t c in subst (λ (u : Triple). Contains g u) r.2 (f.stands r.0 r.1),
    λ c. let r = f.has t c in subst (λ (u : Triple). Contains (graph_of terms ids) u) r.2 (in_graph terms ids r.0 r.1),
  );
}

module _ (terms : List Term) (numbering : IsNumbering terms) where
  pub same_ids : (i j : Ids) → IsNumbered terms i → IsNumbered terms j → triple_at terms i ≡ triple_at terms j → i ≡ j
  same_ids i j a b e =
      let subject = numbering i.subject j.subject a.0 b.0 (ap (λ (t : Triple). t.subject) e) in
      let predicate = numbering i.predicate j.predicate a.1 b.1 (ap (λ (t : Triple). t.predicate) e) in
      let object = numbering i.object j.object a.2 b.2 (ap (λ (t : Triple). t.object) e) in
      λ k. record { subject = subject k; predicate = predicate k; object = object k }

  add : (j : Ids) (ids : List Ids) (g : List Triple) → IsNumbered terms j → Fits terms ids g → Fits terms (with_item ids_cmp j ids) (with_item triple_cmp (triple_at terms j) g)
  add j ids g n f = record {
    numbered = λ i c. elim (with_cases ids_cmp j ids i c) [ inl e ↦ subst (λ (k : Ids). IsNumbered terms k) e n | inr d ↦ f.numbered i d ];
    stands = λ i c. elim (with_cases ids_cmp j ids i c) [
      | inl e ↦ subst (λ (k : Ids). Contains (with_item triple_cmp (triple_at terms j) g) (triple_at terms k)) e (with_new triple_cmp triple_total triple_exact (triple_at terms j) g)
      | inr d ↦ with_old triple_cmp (triple_at terms j) g (triple_at terms i) (f.stands i d)
    ];
    has = λ t c. elim (with_cases triple_cmp (triple_at terms j) g t c) [
      | inl e ↦ (j, with_new ids_cmp ids_total ids_exact j ids, e)
      | inr d ↦ let r = f.has t d in (r.0, with_old ids_cmp j ids r.0 r.1, r.2)
    ];
  }

  remove : (j : Ids) (ids : List Ids) (g : List Triple) → IsNumbered terms j → IsAscending ids_cmp ids → IsAscending triple_cmp g → Fits terms ids g → Fits terms (without_item ids_cmp j ids) (without_item triple_cmp (triple_at terms j) g)
  remove j ids g n a b f = record {
    numbered = λ i c. f.numbered i (without_old ids_cmp j ids i c);
    stands = λ i c. let d = without_old ids_cmp j ids i c in
        without_new triple_cmp triple_total triple_exact (triple_at terms j) g (triple_at terms i) (f.stands i d)
        (λ e. let same = same_ids j i n (f.numbered i d) e in without_gone ids_cmp ids_total ids_exact j ids a (subst (λ (k : Ids). Contains (without_item ids_cmp j ids) k) (sym same) c));
    has = λ t c. let r = f.has t (without_old triple_cmp (triple_at terms j) g t c) in (
      r.0,
      without_new ids_cmp ids_total ids_exact j ids r.0 r.1
          (λ e. without_gone triple_cmp triple_total triple_exact (triple_at terms j) g b (subst (λ (u : Triple). Contains (without_item triple_cmp (triple_at terms j) g) u) (sym (ap (triple_at terms) e ∙ r.2)) c)),
      r.2,
    );
  }

  all : (cs : List NumberedChange) (ids : List Ids) (g : List Triple) → AllByRecursion (IsNumberedChange terms) cs → IsAscending ids_cmp ids → IsAscending triple_cmp g → Fits terms ids g → Fits terms (after_ids ids cs) (after g (map (change_at terms) cs))
  all [] ids g n a b f = f
  all (Add j ∷ cs) ids g n a b f =
      all cs (with_item ids_cmp j ids) (with_item triple_cmp (triple_at terms j) g) n.1 (IsAscending-with_item ids_total j ids a) (IsAscending-with_item triple_total (triple_at terms j) g b) (add j ids g n.0 f)
  all (Remove j ∷ cs) ids g n a b f =
      all cs (without_item ids_cmp j ids) (without_item triple_cmp (triple_at terms j) g) n.1 (IsAscending-without_item ids_total j ids a) (IsAscending-without_item triple_total (triple_at terms j) g b) (remove j ids g n.0 a b f)

-- by the changes that the numbers stand for
pub index_after : (terms : List Term) (cs : List NumberedChange) (net : List Change) (ids later : List Ids) (g : List Triple) → IsNumbering terms → AllByRecursion (IsNumberedChange terms) cs → map (change_at terms) cs ≡ net → later ≡ after_ids ids cs
    → IsAscending ids_cmp ids → IsAscending triple_cmp g → IsIndexOf terms ids g → IsIndexOf terms later (after g net)
index_after terms cs net ids later g k n e l a b x =
    subst (λ (is : List Ids). IsIndexOf terms is (after g net)) (sym l) (subst (λ (cs' : List Change). IsIndexOf terms (after_ids ids cs) (after g cs')) e
    (closed terms (after_ids ids cs) (after g (map (change_at terms) cs)) (all terms k cs ids g n a b (opened terms ids g x))))

-- numbers of just the same triples are the index of the same graph
pub same_index : (terms : List Term) (ids laid : List Ids) (g : List Triple) → ((i : Ids) → Contains ids i ↔ Contains laid i) → IsIndexOf terms ids g → IsIndexOf terms laid g
same_index terms ids laid g same x =
    let f = opened terms ids g x in closed terms laid g (record {
      numbered = λ i c. f.numbered i ((same i).1 c);
      stands = λ i c. f.stands i ((same i).1 c);
      has = λ t c. let r = f.has t c in (r.0, (same r.0).0 r.1, r.2);
    })
