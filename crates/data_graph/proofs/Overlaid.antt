-- Changes laid over the numbers of a graph stand for the graph after them.
use Rattle.std.proofs.Common.{◌≡◌, List, [], ◌∷◌, map, refl, sym, subst, inl, inr}
use Rattle.std.specs.Prelude.{◌↔◌}
use Rattle.std.specs.List.{AllByRecursion, Contains}
use Rattle.collections.specs.Ordered.{IsAscending, with_item, without_item}
use Rattle.collections.proofs.Ascending.{IsAscending-with_item, IsAscending-without_item}
use Rattle.collections.proofs.Members.{with_cases, with_new, with_old, without_gone, without_new, without_old}
use Rattle.rdf_model.specs.declared.change.Change.{Change}
use Rattle.rdf_model.specs.declared.ids.Ids.{Ids}
use Rattle.rdf_model.specs.declared.term.Term.{Term}
use Rattle.rdf_model.specs.declared.triple.Triple.{Triple}
use Rattle.rdf_model.specs.Graphs.{after}
use Rattle.rdf_model.specs.Numbers.{IsNumbering}
use Rattle.rdf_model.specs.Terms.{triple_cmp}
use Rattle.overlay_view.specs.Overlays.{IsAfter, IsChanged}
use Rattle.triple_index.specs.Changes.{IsNumberedChange, after_ids, change_at, changed_ids}
use Rattle.triple_index.specs.IdsOrder.{ids_exact, ids_total}
use Rattle.triple_index.specs.Keys.{ids_cmp}
use Rattle.triple_index.specs.declared.change.NumberedChange.{NumberedChange}
use Rattle.triple_index.specs.declared.change.NumberedChange.TheVariants.{Add, Remove}
use Rattle.data_graph.specs.DataGraphs.{IsIndexOf}
use Rattle.data_graph.proofs.Changing.{index_after, same_index}

-- what holds alike before changes holds alike after them
changed_alike : (P Q : Ids → Type 0) → ((t : Ids) → P t ↔ Q t) → (c : NumberedChange) (t : Ids) → IsChanged P c t ↔ IsChanged Q c t
changed_alike P Q e (Add u) t = (λ c. elim c [ inl d ↦ inl d | inr d ↦ inr ((e t).0 d) ], λ c. elim c [ inl d ↦ inl d | inr d ↦ inr ((e t).1 d) ])
changed_alike P Q e (Remove u) t = (λ c. (c.0, (e t).0 c.1), λ c. (c.0, (e t).1 c.1))

after_alike : (P Q : Ids → Type 0) → ((t : Ids) → P t ↔ Q t) → (cs : List NumberedChange) (t : Ids) → IsAfter P cs t ↔ IsAfter Q cs t
after_alike P Q e [] t = e t
after_alike P Q e (c ∷ cs) t = after_alike (IsChanged P c) (IsChanged Q c) (changed_alike P Q e c) cs t

-- one change makes of a list what it makes of its members
changed_list : (ids : List Ids) → IsAscending ids_cmp ids → (c : NumberedChange) (t : Ids) → IsChanged (Contains ids) c t ↔ Contains (changed_ids ids c) t
changed_list ids a (Add u) t = (
  λ c. elim c [ inl e ↦ subst (λ (w : Ids). Contains (with_item ids_cmp u ids) w) e (with_new ids_cmp ids_total ids_exact u ids) | inr d ↦ with_old ids_cmp u ids t d ],
  λ c. with_cases ids_cmp u ids t c,
)
changed_list ids a (Remove u) t = (
  λ c. without_new ids_cmp ids_total ids_exact u ids t c.1 c.0,
  λ c. (λ e. without_gone ids_cmp ids_total ids_exact u ids a (subst (λ (w : Ids). Contains (without_item ids_cmp u ids) w) (sym e) c), without_old ids_cmp u ids t c),
)

-- and so do all
after_list : (cs : List NumberedChange) (ids : List Ids) → IsAscending ids_cmp ids → (t : Ids) → IsAfter (Contains ids) cs t ↔ Contains (after_ids ids cs) t
after_list [] ids a t = (λ c. c, λ c. c)
after_list (Add u ∷ cs) ids a t =
    let first = after_alike (IsChanged (Contains ids) (Add u)) (Contains (with_item ids_cmp u ids)) (changed_list ids a (Add u)) cs t in
    let rest = after_list cs (with_item ids_cmp u ids) (IsAscending-with_item ids_total u ids a) t in
    (λ c. rest.0 (first.0 c), λ c. first.1 (rest.1 c))
after_list (Remove u ∷ cs) ids a t =
    let first = after_alike (IsChanged (Contains ids) (Remove u)) (Contains (without_item ids_cmp u ids)) (changed_list ids a (Remove u)) cs t in
    let rest = after_list cs (without_item ids_cmp u ids) (IsAscending-without_item ids_total u ids a) t in
    (λ c. rest.0 (first.0 c), λ c. first.1 (rest.1 c))

-- by the changes that the numbers stand for
pub index_overlaid : (terms : List Term) (cs : List NumberedChange) (net : List Change) (ids laid : List Ids) (g : List Triple) → IsNumbering terms → AllByRecursion (IsNumberedChange terms) cs → map (change_at terms) cs ≡ net
    → ((t : Ids) → Contains laid t ↔ IsAfter (Contains ids) cs t) → IsAscending ids_cmp ids → IsAscending triple_cmp g → IsIndexOf terms ids g → IsIndexOf terms laid (after g net)
index_overlaid terms cs net ids laid g k n e l a b x =
    same_index terms (after_ids ids cs) laid (after g net) (λ t. (λ c. (l t).1 ((after_list cs ids a t).1 c), λ c. (after_list cs ids a t).0 ((l t).0 c)))
    (index_after terms cs net ids (after_ids ids cs) g k n e refl a b x)
