use Rattle.std.proofs.Common.{◌≡◌, ◌<◌, ◌+◌, length, ap, ◌∙◌, arith}
use Rattle.std.proofs.lemmas.List.{length_push}
use Rattle.shape_syntax.proofs.Classes.{all_classes, classes_push, few_classes}
use Rattle.shape_syntax.proofs.Pigeonholes.{distinct_push}
use Rattle.shape_syntax.proofs.instance.classes_of.Goals as goal

pub loop-class-smaller : goal.loop-class-smaller
loop-class-smaller c =
    let next = rw c.as_slice.ensures at c.in-Some.ensures in
    let few : length c.loop-class.classes < length c.args.graph.now = few_classes c.args.graph.now c.args.node.now c.loop-class.classes c.in-Some.class.now c.loop-class.invariant.are_classes c.loop-class.invariant.distinct next.0 next.1 in
    let more : length c.push.new.self ≡ length c.loop-class.classes + 1 = ap length c.in_ok-push.ensures.ok ∙ length_push c.loop-class.classes c.in_ok-clone.field-0 in
    omega arith

pub loop-class-preserved : goal.loop-class-preserved
loop-class-preserved c =
    let next = rw c.as_slice.ensures at c.in-Some.ensures in
    rw (c.in_ok-push.ensures.ok, c.in_ok-clone.ensures.cases) (record {
      are_classes = classes_push c.args.graph.now c.args.node.now c.loop-class.classes c.in-Some.class.now c.loop-class.invariant.are_classes next.0;
      distinct = distinct_push c.loop-class.classes c.in-Some.class.now c.loop-class.invariant.distinct next.1;
    })

pub returns : goal.returns
returns c = λ class. (
  λ i. c.loop-class.invariant.are_classes class i,
  λ k. all_classes c.args.graph.now c.args.node.now c.loop-class.classes (rw c.as_slice.ensures at c.in_default.ensures) class k,
)
