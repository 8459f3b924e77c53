use Rattle.std.proofs.Common.{◌≡◌, ◌∙◌, List, refl, subst, sym}
use Rattle.triple_table.specs.Ranks.{HaveBytes, Placed}
use Rattle.triple_table.proofs.Ranking.{passed_step, placed_step}
use Rattle.triple_table.proofs.ranks.placed_of.Goals.{then-marks-place+in_ok-place+in_ok-push, else-marks-place}
use Rattle.triple_table.proofs.ranks.placed_of.Goals as goal

pub loop-place-preserved : goal.loop-place-preserved
loop-place-preserved c = elim c.if-marks-place.branch [
  | then-marks-place+in_ok-place+in_ok-push w ↦
      placed_step c.args.beginning.now c.args.marks.now c.args.terms.now c.loop-place.place w.key_of-key.result w.in_ok-place.place c.index-terms-place.result c.index-terms-place.result c.loop-place.placed.items c.if-marks-place.placed.items c.loop-place-test.true c.index-terms-place.is refl w.in_ok-place.ensures w.if-marks-place.true w.key_of-key.ensures.key w.key_of-key.ensures.bytes c.loop-place.invariant
      ((λ j. (w.placed-is j).items) ∙ w.in_ok-push.ensures.items)
  | else-marks-place w ↦
      let old = c.loop-place.invariant in
      let same : c.if-marks-place.placed.items ≡ c.loop-place.placed.items = (λ j. (w.placed-is j).items) in (
        same ∙ passed_step c.args.beginning.now c.args.marks.now c.args.terms.now c.loop-place.place c.index-terms-place.result c.loop-place.placed.items c.loop-place-test.true c.index-terms-place.is w.if-marks-place.false old.0,
        subst (λ (ps : List Placed). HaveBytes ps) (sym same) old.1,
      )
]
