use Rattle.std.proofs.Common.{rules}
use Rattle.std.specs.Prelude.{leb}
use Rattle.std.proofs.lemmas.List.Sorted.{IsPartitionPoint-from_clause, IsPartitionedBy-leb}
use Rattle.focus_affected.proofs.Keys.{up_to_point}
use Rattle.focus_affected.proofs.runs.count_up_to.Goals as goal

pub returns-clause-split : goal.returns-clause-split
returns-clause-split g c =
    let key = g.T.UnderPredicate.under in
    up_to_point key c.args.items.now c.args.predicate c.partition_point.result
    (IsPartitionPoint-from_clause (λ i. leb (key i) c.args.predicate) c.args.items.now c.partition_point.result c.partition_point.ensures.partitioned
    (IsPartitionedBy-leb key c.args.items.now c.args.predicate c.requires) (λ a r f k. search rules))
