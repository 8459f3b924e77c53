use Rattle.std.proofs.Common.{◌≡◌, refl, sym, arith}
use Rattle.rdf_model.specs.declared.term.Term.{Term}
use Rattle.rdf_model.specs.declared.triple.Triple.{Triple}
use Rattle.shape_syntax.proofs.Loops.{gathered_none, gathered_next, gathered_all, gave}
use Rattle.shape_sizes.proofs.counted.push_objects.Goals as goal

pub loop-triple-init : goal.loop-triple-init
loop-triple-init c = gathered_none (λ (t : Triple) (v : Term). t.object ≡ v) c.args.triples.now c.args.nodes.now

pub loop-triple-preserved : goal.loop-triple-preserved
loop-triple-preserved c = gathered_next (λ (t : Triple) (v : Term). t.object ≡ v) c.args.triples.now c.loop-triple.triple-index c.triple-item.result c.args.nodes.now c.loop-triple.nodes c.push.new.self (omega arith) c.triple-item.is c.loop-triple.invariant
    (gave (λ (v : Term). c.triple-item.result.object ≡ v) c.loop-triple.nodes c.push.new.self c.triple-item.result.object (rw c.in_ok-clone.ensures.cases at c.in_ok-push.ensures.ok) refl (λ x e. sym e))

pub returns : goal.returns
returns c = gathered_all (λ (t : Triple) (v : Term). t.object ≡ v) c.args.triples.now c.loop-triple.triple-index c.args.nodes.now c.loop-triple.nodes (omega arith) c.loop-triple.invariant
