-- One triple more of numbers that have terms.
use Rattle.std.proofs.Common.{◌<◌, List, [], ◌∷◌, length}
use Rattle.std.specs.declared.cmp.Ordering.TheVariants.{Less, Equal, Greater}
use Rattle.std.specs.Ordering.{match_ordering}
use Rattle.collections.specs.Ordered.{with_item}
use Rattle.rdf_model.specs.declared.ids.Ids.{Ids}
use Rattle.rdf_model.specs.declared.term.Term.{Term}
use Rattle.rdf_model.specs.Numbers.{AreNumbered}
use Rattle.triple_index.specs.Keys.{ids_cmp}

pub numbered_with : (terms : List Term) (i : Ids) (ids : List Ids) → (i.subject < length terms) × (i.predicate < length terms) × (i.object < length terms) → AreNumbered terms ids → AreNumbered terms (with_item ids_cmp i ids)
numbered_with terms i [] n a = (n, tt)
numbered_with terms i (j ∷ js) n a = elim (ids_cmp i j) as (λ o. AreNumbered terms (match_ordering o (i ∷ j ∷ js) (j ∷ js) (j ∷ with_item ids_cmp i js))) [
  | Less ↦ (n, a)
  | Equal ↦ a
  | Greater ↦ (a.0, numbered_with terms i js n a.1)
]
