use Rattle.std.proofs.Common.{◌≡◌, ◌∷◌, ◌++◌}
use Rattle.std.specs.Prelude.{Some, filter}
use Rattle.collections.specs.Ordered.{IsAscending}
use Rattle.page_index.specs.Reading.{keys_above}
use Rattle.triple_index.specs.Keys.{key_cmp}
use Rattle.triple_index.specs.Patterns.{begins_with}
use Rattle.triple_index.proofs.run.add_from.Given as goal

abbrev pub invariant-loop-key : goal.invariant-loop-key
invariant-loop-key l = record {
  rest : l.into.items ++ filter (begins_with l.prefix) l.key-iterator ≡ l.fn.into.items ++ filter (begins_with l.prefix) (l.start ∷ keys_above key_cmp (Some l.start) l.pages);
  ascending : IsAscending key_cmp (l.start ∷ l.key-iterator);
}
