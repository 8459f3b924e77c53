use Rattle.std.proofs.Common.{rules}
use Rattle.std.specs.Prelude.{ltb}
use Rattle.std.proofs.lemmas.List.Sorted.{IsPartitionPoint-from_clause, IsPartitionedBy-ltb}
use Rattle.focus_affected.proofs.Keys.{below_point}
use Rattle.focus_affected.proofs.runs.count_below.Goals as goal

pub returns-clause-split : goal.returns-clause-split
returns-clause-split g c =
    let key = g.T.UnderPredicate.under in
    below_point key c.args.items.now c.args.predicate c.partition_point.result
    (IsPartitionPoint-from_clause (λ i. ltb (key i) c.args.predicate) c.args.items.now c.partition_point.result c.partition_point.ensures.partitioned
    (IsPartitionedBy-ltb key c.args.items.now c.args.predicate c.requires) (λ a r f k. search rules))
