use Rattle.std.proofs.Common.{◌∙◌, rules}
use Rattle.std.proofs.lemmas.List.Sorted.{IsPartitionPoint-from_clause}
use Rattle.std.specs.Ordering.{is_le}
use Rattle.page_tree.proofs.Above.{le-partitioned, above-from, take-rest}
use Rattle.page_tree.proofs.run.leaf_above.Goals as goal

pub returns : goal.returns
returns g c =
    let at = c.partition_point-after.result in
    let point = IsPartitionPoint-from_clause (λ k. is_le (g.K.Ord.cmp k c.args.key.now)) c.args.keys.now at c.partition_point-after.ensures.partitioned (le-partitioned g.K.Ord.cmp g.met.K.Ord.total c.args.key.now c.args.keys.now c.requires) (λ a r f k. search rules) in
    take-rest at c.args.keys.now ∙ above-from g.K.Ord.cmp g.met.K.Ord.total c.args.key.now c.args.keys.now at c.partition_point-after.ensures.bound point
