use Rattle.std.proofs.Common.{List, subst, arith}
use Rattle.std.proofs.lemmas.List.{take_all}
use Rattle.rdf_model.specs.declared.term.Term.{Term}
use Rattle.plain_values.specs.Tests.{Conforming, Tallied}
use Rattle.plain_values.proofs.Tallies.{tallied_next, tallied_none, tallied_pass}
use Rattle.plain_values.proofs.logic.how_many.Goals as goal
use Rattle.plain_values.proofs.logic.how_many.Goals.{then-conforms, else-conforms}

pub loop-shape-init : goal.loop-shape-init
loop-shape-init c = record { tallied = tallied_none (λ m. Conforming c.args.told.now m c.args.node.now); few = omega arith }

pub loop-shape-preserved : goal.loop-shape-preserved
loop-shape-preserved c =
    let P = λ (m : Term). Conforming c.args.told.now m c.args.node.now in
    let few = c.loop-shape.invariant.few in
    elim c.if-conforms.branch [
      | then-conforms w ↦ rw w.yes-is (record {
        tallied = tallied_next P c.args.shapes.now c.loop-shape.shape-index c.shape-item.result c.loop-shape.yes c.loop-shape-test.true c.shape-item.is (c.conforms.ensures.0 w.if-conforms.true) c.loop-shape.invariant.tallied;
        few = omega (arith, few);
      })
      | else-conforms w ↦ rw w.yes-is (record {
        tallied = tallied_pass P c.args.shapes.now c.loop-shape.shape-index c.shape-item.result c.loop-shape.yes c.loop-shape-test.true c.shape-item.is (λ p. let t = c.conforms.ensures.1 p in cc (t, w.if-conforms.false)) c.loop-shape.invariant.tallied;
        few = omega (arith, few);
      })
    ]

pub returns : goal.returns
returns c = subst (λ (xs : List Term). Tallied (λ m. Conforming c.args.told.now m c.args.node.now) xs c.loop-shape.yes) (take_all c.loop-shape.shape-index c.args.shapes.now c.loop-shape-test.false) c.loop-shape.invariant.tallied
