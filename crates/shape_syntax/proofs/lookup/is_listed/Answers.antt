use Rattle.std.proofs.Common.{not, rules}
use Rattle.std.proofs.lemmas.List.Sorted.{IsPartitionPoint-from_clause}
use Rattle.std.specs.Ordering.{is_lt, is_gt}
use Rattle.rdf_model.specs.declared.term.Term.{Term}
use Rattle.rdf_model.specs.Terms.{term_cmp}
use Rattle.rdf_model.specs.Orders.{term_total, term_exact}
use Rattle.shape_syntax.proofs.Places.{term_agrees}
use Rattle.shape_syntax.proofs.Ranges.{lt_parts, le_parts, some_between}
use Rattle.shape_syntax.proofs.lookup.is_listed.Goals as goal

pub returns : goal.returns
returns c =
    let xs = c.args.nodes.now in
    let k = c.args.node.now in
    some_between term_cmp term_cmp term_total term_agrees term_exact k xs c.partition_point-first.result c.partition_point-end.result c.partition_point-end.ensures.bound
    (IsPartitionPoint-from_clause (λ (t : Term). is_lt (term_cmp t k)) xs c.partition_point-first.result c.partition_point-first.ensures.partitioned (lt_parts term_cmp term_cmp term_total term_agrees k xs c.requires) (λ a r f' called. search rules))
    (IsPartitionPoint-from_clause (λ (t : Term). not (is_gt (term_cmp t k))) xs c.partition_point-end.result c.partition_point-end.ensures.partitioned (le_parts term_cmp term_cmp term_total term_agrees k xs c.requires) (λ a r f' called. search rules))
