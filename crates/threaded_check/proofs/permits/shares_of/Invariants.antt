use Rattle.std.proofs.Common.{◌≡◌, ◌≤◌, ◌++◌}
use Rattle.std.specs.Slice.Iter.{chunks_rest}
use Rattle.parallel_validate.specs.PairsResults.{StepsOfPairs}
use Rattle.threaded_check.specs.Findings.{AddsAimLooks}
use Rattle.threaded_check.specs.PermittedPairs.{AreAllowed, pairs_in, permitted_in}
use Rattle.threaded_check.proofs.permits.shares_of.Given as goal

-- the pairs of the shares so far
abbrev pub invariant-loop-chunk : goal.invariant-loop-chunk
invariant-loop-chunk g l = record {
  goes_on : (goal.iterator-loop-chunk g).can_next l.chunk-iterator;
  ends : (goal.iterator-loop-chunk g).is_finite l.chunk-iterator;
  rest : pairs_in (permitted_in l.shares.items) ++ chunks_rest l.chunk-iterator ≡ l.fn.pairs;
  allowed : AreAllowed l.evaluation.terms l.evaluation.ids l.evaluation.shapes (permitted_in l.shares.items);
  looks : AddsAimLooks l.evaluation.terms l.evaluation.ids l.evaluation.shapes (pairs_in (permitted_in l.shares.items)) l.fn.footprint l.footprint;
  steps : StepsOfPairs l.evaluation.terms l.evaluation.ids l.evaluation.shapes (pairs_in (permitted_in l.shares.items)) l.fn.steps l.steps;
  counted : l.fn.steps ≤ l.steps;
}
