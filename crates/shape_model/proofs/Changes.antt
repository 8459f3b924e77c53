-- What stands in a graph after changes.
use Rattle.std.proofs.Common.{List, [], ◌∷◌, inl, inr}
use Rattle.std.specs.Prelude.{◌↔◌}
use Rattle.std.specs.List.{Contains}
use Rattle.rdf_model.specs.declared.triple.Triple.{Triple}
use Rattle.rdf_model.specs.declared.change.Change.{Change}
use Rattle.rdf_model.specs.declared.change.Change.TheVariants.{Add, Remove}
use Rattle.rdf_model.specs.Terms.{triple_cmp}
use Rattle.rdf_model.specs.Orders.{triple_total, triple_exact}
use Rattle.rdf_model.specs.Graphs.{changed, after}
use Rattle.collections.specs.Ordered.{IsAscending}
use Rattle.collections.proofs.Ascending.{IsAscending-with_item, IsAscending-without_item}
use Rattle.shape_model.specs.Touching.{IsChanged}
use Rattle.collections.proofs.Members.{has_equal, has_tail, with_same, without_same, with_other, without_other}
use Rattle.std.proofs.Common.{ap}

ascends : (g : List Triple) (c : Change) → IsAscending triple_cmp g → IsAscending triple_cmp (changed g c)
ascends g (Add t) a = IsAscending-with_item triple_total t g a
ascends g (Remove t) a = IsAscending-without_item triple_total t g a

one_same : (g k : List Triple) (c : Change) (t : Triple) → IsAscending triple_cmp g → IsAscending triple_cmp k → Contains g t ↔ Contains k t → Contains (changed g c) t ↔ Contains (changed k c) t
one_same g k (Add u) t a b e = with_same triple_cmp triple_total triple_exact u g k t e
one_same g k (Remove u) t a b e = without_same triple_cmp triple_total triple_exact u g k t a b e

-- graphs that agree on a triple agree on it after the same changes
pub after_same : (g k : List Triple) (net : List Change) (t : Triple) → IsAscending triple_cmp g → IsAscending triple_cmp k → Contains g t ↔ Contains k t → Contains (after g net) t ↔ Contains (after k net) t
after_same g k [] t a b e = e
after_same g k (c ∷ net) t a b e = after_same (changed g c) (changed k c) net t (ascends g c a) (ascends k c b) (one_same g k c t a b e)

not_first : (c : Change) (net : List Change) (t : Triple) → (IsChanged (c ∷ net) t → ⊥) → IsChanged net t → ⊥
not_first c net t never i = never (elim i [ inl k ↦ inl (has_tail c net (Add t) k) | inr k ↦ inr (has_tail c net (Remove t) k) ])

one_other : (g : List Triple) (c : Change) (net : List Change) (t : Triple) → (IsChanged (c ∷ net) t → ⊥) → Contains g t ↔ Contains (changed g c) t
one_other g (Add u) net t never = with_other triple_cmp triple_total triple_exact u g t (λ e. never (inl (has_equal (Add u) net (Add t) (ap Add e))))
one_other g (Remove u) net t never = without_other triple_cmp triple_total triple_exact u g t (λ e. never (inr (has_equal (Remove u) net (Remove t) (ap Remove e))))

-- a triple that isn't changed stands in the graph after the changes where it stood before
pub after_other : (g : List Triple) (net : List Change) (t : Triple) → (IsChanged net t → ⊥) → Contains g t ↔ Contains (after g net) t
after_other g [] t never = (λ c. c, λ c. c)
after_other g (c ∷ net) t never =
    let first = one_other g c net t never in
    let rest = after_other (changed g c) net t (not_first c net t never) in
    (λ i. rest.0 (first.0 i), λ i. first.1 (rest.1 i))
