use Rattle.std.proofs.Common.{subst, sym}
use Rattle.std.specs.Prelude.{OnOk}
use Rattle.shape_eval.specs.Settings.{Setting}
use Rattle.parallel_validate.specs.PairsResults.{AddsLooksOfPairs, ArePlacedPairs, StepsOfPairs}
use Rattle.parallel_validate.proofs.pairs.rows_of_pairs.Goals as goal

pub checked_pairs-requires : goal.checked_pairs-requires
checked_pairs-requires g c = subst (λ (e : Setting). ArePlacedPairs e.terms e.shapes c.args.pairs.now) (sym c.new-evaluation.ensures) c.requires.placed

pub returns-clause-looks : goal.returns-clause-looks
returns-clause-looks g c = subst (λ (e : Setting). OnOk c.checked_pairs.result (AddsLooksOfPairs e.terms e.ids e.shapes c.args.pairs.now c.args.footprint.now c.checked_pairs.new.footprint)) c.new-evaluation.ensures c.checked_pairs.ensures.looks

pub returns-clause-steps : goal.returns-clause-steps
returns-clause-steps g c = subst (λ (e : Setting). OnOk c.checked_pairs.result (StepsOfPairs e.terms e.ids e.shapes c.args.pairs.now c.args.steps.now c.checked_pairs.new.steps)) c.new-evaluation.ensures c.checked_pairs.ensures.steps
