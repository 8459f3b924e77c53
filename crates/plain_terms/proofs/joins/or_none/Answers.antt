use Rattle.std.proofs.Common.{◌≡◌, true}
use Rattle.std.specs.Prelude.{◌⊎◌}
use Rattle.std.specs.List.{Contains}
use Rattle.plain_terms.specs.Relations.{Joins}
use Rattle.plain_terms.proofs.Made.{means_of, or_none_joins, same_pairs}
use Rattle.plain_terms.proofs.joins.or_none.Goals as goal

pub returns : goal.returns
returns c =
    let r = c.args.relation.now in
    means_of (λ x y. (x ≡ y) ⊎ Joins r x y) (Contains r.pairs) r.pairs c.as_slice.result.now true c.in_ok-made.made c.as_slice.ensures (same_pairs r.pairs) c.in_ok-made.ensures.pairs c.in_ok-made.ensures.reflexive (or_none_joins r)
