use Rattle.std.proofs.Common.{rules}
use Rattle.std.proofs.lemmas.List.Sorted.{IsPartitionPoint-from_clause}
use Rattle.std.specs.Ordering.{is_lt}
use Rattle.page_tree.proofs.reading.keys_before.Goals as goal

pub returns-clause-point : goal.returns-clause-point
returns-clause-point g c = λ of ck part. IsPartitionPoint-from_clause (λ k. is_lt (of k)) c.args.keys.now c.partition_point.result c.partition_point.ensures.partitioned part (λ a q f k. search rules)
