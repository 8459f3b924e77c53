use Rattle.std.proofs.Common.{◌∙◌, List, arith, refl, subst, sym}
use Rattle.std.proofs.lemmas.Result.{err_from_is_err_and}
use Rattle.rdf_model.specs.declared.term.Term.{Term}
use Rattle.shape_syntax.proofs.Scans.{read_in}
use Rattle.shape_properties.proofs.Defined.{shape_same}
use Rattle.shape_reader.specs.Parts.{IsShapeOf}
use Rattle.shape_reader.proofs.Causes.{cause_since}
use Rattle.shape_reader.proofs.Collected.{all_passed, as_many, none_yet, one_more, stand_for, surveyed}
use Rattle.shape_reader.proofs.Requests.{all_among, among_more, none_among, stopped_after, stopped_at}
use Rattle.shape_reader.proofs.shapes.compile_of.Goals as goal

pub loop-node-init : goal.loop-node-init
loop-node-init g c = rw c.new-shapes.ensures (record {
  shapes = none_yet c.args.graph.now c.as_slice-nodes.result.now;
  refused = refl;
  asked = none_among c.args.graph.now c.as_slice-nodes.result.now (g.M.Maker.asked c.args.maker.now);
})

pub new-shape-requires-clause-shape : goal.new-shape-requires-clause-shape
new-shape-requires-clause-shape g c =
    let s = c.args.graph.now in
    let nodes = c.as_slice-nodes.result.now in
    let listing = surveyed s c.args.survey.now nodes c.as_slice-nodes.ensures.value c.requires.survey in
    (shape_same s c.node-item.result).1 ((listing.members c.node-item.result).0 (read_in nodes c.loop-node.node-index c.node-item.result (omega arith) c.node-item.is))

pub returns-in_err-compiled-clause-answer : goal.returns-in_err-compiled-clause-answer
returns-in_err-compiled-clause-answer g c =
    let p = err_from_is_err_and c.from_residual.result c.from_residual.ensures.1 in
    rw (p.1, p.2) (cause_since c.args.graph.now _ _ _ _ c.loop-node.invariant.refused (rw c.new-shape.ensures at c.in_err-compiled.ensures.answer))

pub returns-in_err-compiled-clause-asked : goal.returns-in_err-compiled-clause-asked
returns-in_err-compiled-clause-asked g c =
    let s = c.args.graph.now in
    let nodes = c.as_slice-nodes.result.now in
    let listing = surveyed s c.args.survey.now nodes c.as_slice-nodes.ensures.value c.requires.survey in
    let p = err_from_is_err_and c.from_residual.result c.from_residual.ensures.1 in
    rw (p.1, p.2) (stopped_at s nodes listing c.loop-node.node-index c.node-item.result _ _ _ _ (omega arith) c.node-item.is c.loop-node.invariant.asked (rw c.new-shape.ensures at c.in_err-compiled.ensures.asked))

pub returns-in_err-push-clause-asked : goal.returns-in_err-push-clause-asked
returns-in_err-push-clause-asked g c =
    let s = c.args.graph.now in
    let nodes = c.as_slice-nodes.result.now in
    let listing = surveyed s c.args.survey.now nodes c.as_slice-nodes.ensures.value c.requires.survey in
    let p = err_from_is_err_and c.from_residual-in_err-push.result c.from_residual-in_err-push.ensures.1 in
    rw (p.1, p.2) (stopped_after s nodes listing c.loop-node.node-index c.node-item.result _ _ _ (omega arith) c.node-item.is c.loop-node.invariant.asked (rw c.new-shape.ensures at c.in_ok-compiled.ensures.asked))

pub loop-node-preserved : goal.loop-node-preserved
loop-node-preserved g c =
    let s = c.args.graph.now in
    let nodes = c.as_slice-nodes.result.now in
    let n = c.node-item.result in
    let shape = c.in_ok-compiled.compiled in
    let listing = surveyed s c.args.survey.now nodes c.as_slice-nodes.ensures.value c.requires.survey in
    let compiled = rw c.new-shape.ensures at c.in_ok-compiled.ensures.answer in
    let at_node = subst (λ (ns : List Term). IsShapeOf s ns n shape) (sym c.as_slice-nodes.ensures.value) compiled.0 in
    rw c.in_ok-push.ensures.ok (record {
      shapes = one_more s nodes c.loop-node.shapes c.loop-node.node-index n shape (omega arith) c.node-item.is c.loop-node.invariant.shapes at_node;
      refused = compiled.1 ∙ c.loop-node.invariant.refused;
      asked = among_more s nodes listing c.loop-node.node-index n _ _ _ (omega arith) c.node-item.is c.loop-node.invariant.asked (rw c.new-shape.ensures at c.in_ok-compiled.ensures.asked);
    })

pub returns-clause-answer : goal.returns-clause-answer
returns-clause-answer g c =
    let s = c.args.graph.now in
    let nodes = c.as_slice-nodes.result.now in
    let listing = surveyed s c.args.survey.now nodes c.as_slice-nodes.ensures.value c.requires.survey in
    let done = all_passed s nodes c.loop-node.shapes c.loop-node.node-index (omega arith) c.loop-node.invariant.shapes in
    let stand = stand_for s nodes c.requires.well_formed listing c.loop-node.shapes done in (
      record {
        compiled = record { stand = stand; built = done.built; within = as_many s nodes c.loop-node.shapes done };
        once = done.once;
      },
      c.loop-node.invariant.refused,
    )

pub returns-clause-asked : goal.returns-clause-asked
returns-clause-asked g c =
    let s = c.args.graph.now in
    let nodes = c.as_slice-nodes.result.now in
    let listing = surveyed s c.args.survey.now nodes c.as_slice-nodes.ensures.value c.requires.survey in
    all_among s nodes listing c.loop-node.node-index _ _ (omega arith) c.loop-node.invariant.asked
