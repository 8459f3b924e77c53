use Rattle.std.proofs.Common.{◌∙◌, ℕ, ◌+◌, Bool, false, List, length, ap, arith, get_or, rules}
use Rattle.std.proofs.lemmas.List.{length_push}
use Rattle.std.proofs.lemmas.List.Elements.{Contains-get_or}
use Rattle.rdf_model.specs.Numbers.{graph_of, term_at}
use Rattle.shape_model.specs.Instances.{Instance, class_path}
use Rattle.shape_model.specs.NodeLooks.{PathReads}
use Rattle.component_rows.proofs.Told.{tells_more, tells_all}
use Rattle.shape_eval.proofs.Looking.{reads_all, reads_mapped, reads_more, reads_none}
use Rattle.shape_eval.proofs.looks.instance_answers.Goals as goal

pub is_instance-requires-clause-node : goal.is_instance-requires-clause-node
is_instance-requires-clause-node g c = c.requires.nodes.named (get_or c.args.nodes.now c.loop-node.node-index 0) (Contains-get_or c.args.nodes.now c.loop-node.node-index 0 c.loop-node-test.true)

pub loop-node-init : goal.loop-node-init
loop-node-init g c =
    let terms = c.args.evaluation.now.terms in
    record {
      many = search rules;
      told = search rules;
      looks = reads_none terms (λ (n : ℕ). PathReads (graph_of terms c.args.evaluation.now.ids) false class_path (term_at terms n)) c.args.footprint.now;
      kept = λ look h. h;
    }

pub loop-node-preserved : goal.loop-node-preserved
loop-node-preserved g c =
    let terms = c.args.evaluation.now.terms in
    let graph = graph_of terms c.args.evaluation.now.ids in
    let nodes = c.args.nodes.now in
    let i = c.loop-node.node-index in
    let before = c.loop-node.invariant in
    record {
      many = ap (λ (answers : List Bool). length answers) c.in_ok-push.ensures.items ∙ length_push c.loop-node.answers.items c.in_ok-is_instance.field-0 ∙ ap (λ (n : ℕ). n + 1) before.many;
      told = tells_more (λ k. Instance graph (term_at terms (get_or nodes k 0)) (term_at terms c.args.class)) c.loop-node.answers.items c.push.new.self.items i c.in_ok-is_instance.field-0
          c.in_ok-push.ensures.items before.told c.in_ok-is_instance.ensures.answer;
      looks = reads_more terms (λ (n : ℕ). PathReads graph false class_path (term_at terms n)) nodes i 0 c.loop-node-test.true c.args.footprint.now c.loop-node.footprint c.is_instance.new.footprint before.looks c.in_ok-is_instance.ensures.looks;
      kept = λ look h. c.is_instance.ensures.kept look (before.kept look h);
    }

pub returns-clause-kept : goal.returns-clause-kept
returns-clause-kept g c = c.loop-node.invariant.kept

pub returns-in_err-is_instance-clause-kept : goal.returns-in_err-is_instance-clause-kept
returns-in_err-is_instance-clause-kept g c = λ look h. c.is_instance.ensures.kept look (c.loop-node.invariant.kept look h)

pub returns-in_err-push-clause-kept : goal.returns-in_err-push-clause-kept
returns-in_err-push-clause-kept g c = λ look h. c.is_instance.ensures.kept look (c.loop-node.invariant.kept look h)

pub returns-clause-told : goal.returns-clause-told
returns-clause-told g c =
    let terms = c.args.evaluation.now.terms in
    let nodes = c.args.nodes.now in
    let count = c.loop-node.invariant.many in (
      omega (arith, count, c.loop-node-test.false, c.loop-node.auto.node-index-end),
      tells_all (λ k. Instance (graph_of terms c.args.evaluation.now.ids) (term_at terms (get_or nodes k 0)) (term_at terms c.args.class)) c.loop-node.answers.items c.loop-node.node-index (length nodes)
          c.loop-node-test.false c.loop-node.auto.node-index-end c.loop-node.invariant.told,
    )

pub returns-clause-looks : goal.returns-clause-looks
returns-clause-looks g c =
    let terms = c.args.evaluation.now.terms in
    let nodes = c.args.nodes.now in
    let Reads = PathReads (graph_of terms c.args.evaluation.now.ids) false class_path in
    reads_mapped terms (term_at terms) nodes Reads c.args.footprint.now c.loop-node.footprint
    (reads_all terms (λ (n : ℕ). Reads (term_at terms n)) nodes c.loop-node.node-index c.loop-node-test.false c.args.footprint.now c.loop-node.footprint c.loop-node.invariant.looks)
