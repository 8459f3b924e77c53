use Rattle.std.proofs.Common.{List, subst}
use Rattle.collections.specs.Ordered.{IsAscending}
use Rattle.rdf_model.specs.declared.ids.Ids.{Ids}
use Rattle.triple_index.specs.Keys.{ids_cmp}
use Rattle.triple_index.proofs.Viewed.{viewed_ascending}
use Rattle.triple_index.proofs.index.Index.recall_ascending.Goals as goal

pub returns : goal.returns
returns c = subst (λ (ids : List Ids). IsAscending ids_cmp ids) c.self.view_is (viewed_ascending c.self.inside.subjects c.self.invariant.first)
