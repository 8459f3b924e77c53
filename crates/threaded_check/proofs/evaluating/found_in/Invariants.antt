use Rattle.std.proofs.Common.{◌≡◌, [], ◌++◌}
use Rattle.std.specs.Vec.Iter.{into_iter_items}
use Rattle.parallel_validate.specs.PairsResults.{HaveRows}
use Rattle.threaded_check.specs.Findings.{AddsRowLooks}
use Rattle.threaded_check.specs.PermittedPairs.{pairs_in}
use Rattle.threaded_check.proofs.evaluating.found_in.Given as goal

-- the pairs so far with their results
abbrev pub invariant-loop-pair : goal.invariant-loop-pair
invariant-loop-pair g l = record {
  rest : l.yielded ++ into_iter_items l.pair-iterator ≡ l.fn.share.pairs.items;
  rows : HaveRows l.evaluation.terms l.evaluation.ids l.evaluation.shapes (pairs_in l.yielded) l.pairs.items;
  looks : AddsRowLooks l.evaluation.terms l.evaluation.ids l.evaluation.shapes (pairs_in l.yielded) [] l.looks;
}
