use Rattle.std.proofs.Common.{◌≤◌, take}
use Rattle.parallel_validate.specs.PairsResults.{AddsLooksOfPairs, HaveRows, StepsOfPairs}
use Rattle.parallel_validate.proofs.pairs.checked_pairs.Given as goal

-- what the pairs so far gave
abbrev pub invariant-loop-pair : goal.invariant-loop-pair
invariant-loop-pair g l = record {
  rows : HaveRows l.evaluation.terms l.evaluation.ids l.evaluation.shapes (take l.pair-index l.pairs) l.checked.items;
  looks : AddsLooksOfPairs l.evaluation.terms l.evaluation.ids l.evaluation.shapes (take l.pair-index l.pairs) l.fn.footprint l.footprint;
  steps : StepsOfPairs l.evaluation.terms l.evaluation.ids l.evaluation.shapes (take l.pair-index l.pairs) l.fn.steps l.steps;
  counted : l.fn.steps ≤ l.steps;
}
