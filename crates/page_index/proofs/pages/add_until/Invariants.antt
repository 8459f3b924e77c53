use Rattle.std.proofs.Common.{◌≡◌, ◌++◌}
use Rattle.std.specs.Prelude.{filter}
use Rattle.std.specs.Ordering.{is_lt}
use Rattle.collections.specs.Ordered.{IsAscending}
use Rattle.page_index.proofs.pages.add_until.Given as goal

abbrev pub invariant-loop-key : goal.invariant-loop-key
invariant-loop-key g l = record {
  ascending : IsAscending g.K.Ord.cmp l.key-iterator;
  rest : l.into.items ++ filter (λ k. is_lt (g.K.Ord.cmp k l.to)) l.key-iterator ≡ l.fn.into.items ++ filter (λ k. is_lt (g.K.Ord.cmp k l.to)) l.fn.keys;
}
