use Rattle.std.proofs.Common.{◌∙◌}
use Rattle.term_dict.proofs.Distinct.{one_as}
use Rattle.term_dict.proofs.table.table_of.Goals as goal

pub from_sorted-requires : goal.from_sorted-requires
from_sorted-requires c = (one_as c.args.terms.now c.in_ok-terms.terms c.in_ok-terms.by_hash.items c.sort.new.self.items c.deref.result.now c.requires c.in_ok-terms.ensures.terms c.in_ok-terms.ensures.entries c.in_ok-sort.ensures.permutation c.in_ok-sort.ensures.sorted c.deref.ensures.value).ascending

pub invariant_of-result : goal.invariant_of-result
invariant_of-result c = one_as c.args.terms.now c.in_ok-terms.terms c.in_ok-terms.by_hash.items c.sort.new.self.items c.in_ok-from_sorted.field-0 c.requires c.in_ok-terms.ensures.terms c.in_ok-terms.ensures.entries c.in_ok-sort.ensures.permutation c.in_ok-sort.ensures.sorted (c.in_ok-from_sorted.ensures ∙ c.deref.ensures.value)
