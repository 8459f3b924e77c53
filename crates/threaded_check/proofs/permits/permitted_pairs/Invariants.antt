use Rattle.std.proofs.Common.{◌≤◌, take}
use Rattle.parallel_validate.specs.PairsResults.{StepsOfPairs}
use Rattle.threaded_check.specs.Findings.{AddsAimLooks}
use Rattle.threaded_check.specs.PermittedPairs.{ArePermitted}
use Rattle.threaded_check.proofs.permits.permitted_pairs.Given as goal

-- the pairs so far with their permits
abbrev pub invariant-loop-pair : goal.invariant-loop-pair
invariant-loop-pair g l = record {
  permitted : ArePermitted l.evaluation.terms l.evaluation.ids l.evaluation.shapes (take l.pair-index l.pairs) l.allowed.items;
  looks : AddsAimLooks l.evaluation.terms l.evaluation.ids l.evaluation.shapes (take l.pair-index l.pairs) l.fn.footprint l.footprint;
  steps : StepsOfPairs l.evaluation.terms l.evaluation.ids l.evaluation.shapes (take l.pair-index l.pairs) l.fn.steps l.steps;
  counted : l.fn.steps ≤ l.steps;
}
