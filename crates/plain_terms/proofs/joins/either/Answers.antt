use Rattle.std.proofs.Common.{◌∙◌}
use Rattle.std.specs.Prelude.{◌⊎◌, ◌||◌}
use Rattle.std.specs.List.{Contains}
use Rattle.plain_terms.specs.Relations.{Joins}
use Rattle.plain_terms.proofs.Made.{either_joins, either_pairs, means_of}
use Rattle.plain_terms.proofs.joins.either.Goals as goal

pub returns : goal.returns
returns c =
    let r = c.args.first.now in
    let s = c.args.second.now in
    means_of (λ x y. Joins r x y ⊎ Joins s x y) (λ p. Contains r.pairs p ⊎ Contains s.pairs p) c.append.new.self.items c.deref.result.now (r.is_reflexive || s.is_reflexive) c.in_ok-made.made c.deref.ensures.value
    (either_pairs r.pairs s.pairs c.as_slice.result.now c.as_slice-2.result.now c.in_ok-each_once.field-0 c.in_ok-each_once-2.field-0 c.into_vec-pairs.result.items c.into_vec-more.result.items c.append.new.self.items c.as_slice.ensures c.as_slice-2.ensures
    c.in_ok-each_once.ensures c.in_ok-each_once-2.ensures c.into_vec-pairs.ensures c.into_vec-more.ensures c.in_ok-append.ensures.items)
    c.in_ok-made.ensures.pairs (c.in_ok-made.ensures.reflexive ∙ c.is_either-is_reflexive.ensures) (either_joins r s)
