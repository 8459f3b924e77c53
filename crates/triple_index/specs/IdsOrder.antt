-- The laws of the order of triples, which is that of their keys.
use Rattle.std.specs.Prelude.{◌≡◌}
use Rattle.std.proofs.Common.{ap}
use Rattle.std.specs.declared.cmp.Ordering.TheVariants.{Equal}
use Rattle.std.specs.Cmp.{IsTotalOrder}
use Rattle.std.proofs.lemmas.Cmp.{on_total}
use Rattle.rdf_model.specs.declared.ids.Ids.{Ids}
use Rattle.triple_index.specs.Keys.{ids_cmp, by_subject, from_subject}
use Rattle.triple_index.specs.Orders.{key_total, key_exact}

pub ids_total : IsTotalOrder ids_cmp
ids_total = on_total by_subject key_total

-- triples that tie are one
pub ids_exact : (a b : Ids) → ids_cmp a b ≡ Equal → a ≡ b
ids_exact a b h = ap from_subject (key_exact (by_subject a) (by_subject b) h)
