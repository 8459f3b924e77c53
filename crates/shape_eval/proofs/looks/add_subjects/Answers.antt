use Rattle.std.proofs.Common.{◌≡◌, ℕ, List, get_or, subst, sym}
use Rattle.std.specs.List.{Contains}
use Rattle.rdf_model.specs.declared.look.Look.{Look}
use Rattle.rdf_model.specs.declared.look.Look.TheVariants.{OutAny}
use Rattle.rdf_model.specs.Numbers.{term_at}
use Rattle.shape_eval.proofs.Looking.{kept_added, reads_all, reads_mapped, reads_none, subjects_more}
use Rattle.shape_eval.proofs.looks.add_subjects.Goals as goal

pub loop-node-init : goal.loop-node-init
loop-node-init c = (λ terms numbering are. reads_none terms (λ (n : ℕ) look. look ≡ OutAny (term_at terms n)) c.args.footprint.now, λ look h. h)

pub loop-node-preserved : goal.loop-node-preserved
loop-node-preserved c = (
  λ terms numbering are.
      subjects_more terms numbering c.args.nodes.now are c.loop-node.node-index c.loop-node-test.true c.args.footprint.now c.loop-node.footprint c.add.new.self (c.loop-node.invariant.0 terms numbering are) c.in_ok-add.ensures.ok,
  λ look h. kept_added c.loop-node.footprint c.add.new.self (OutAny (get_or c.args.nodes.now c.loop-node.node-index 0)) c.in_ok-add.ensures.ok look (c.loop-node.invariant.1 look h),
)

pub returns-clause-looks : goal.returns-clause-looks
returns-clause-looks c = λ terms numbering are.
    reads_mapped terms (term_at terms) c.args.nodes.now (λ v look. look ≡ OutAny v) c.args.footprint.now c.loop-node.footprint
    (reads_all terms (λ (n : ℕ) look. look ≡ OutAny (term_at terms n)) c.args.nodes.now c.loop-node.node-index c.loop-node-test.false c.args.footprint.now c.loop-node.footprint (c.loop-node.invariant.0 terms numbering are))

pub returns-clause-kept : goal.returns-clause-kept
returns-clause-kept c = c.loop-node.invariant.1

pub returns-in_err-add-clause-kept : goal.returns-in_err-add-clause-kept
returns-in_err-add-clause-kept c = λ look h. subst (λ (ls : List (Look ℕ)). Contains ls look) (sym c.in_err-add.ensures.err) (c.loop-node.invariant.1 look h)
