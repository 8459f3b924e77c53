use Rattle.std.proofs.Common.{◌≡◌, [], refl, sym, arith}
use Rattle.rdf_model.specs.declared.term.Term.{Term}
use Rattle.rdf_model.specs.declared.triple.Triple.{Triple}
use Rattle.shape_syntax.proofs.Loops.{gathered_none, gathered_next, gathered_all, from_none, gave}
use Rattle.shape_reader.proofs.values.objects_of.Goals as goal

pub loop-triple-init : goal.loop-triple-init
loop-triple-init c = rw c.new-objects.ensures (gathered_none (λ (t : Triple) (o : Term). t.object ≡ o) c.args.triples.now [])

pub loop-triple-preserved : goal.loop-triple-preserved
loop-triple-preserved c = gathered_next (λ (t : Triple) (o : Term). t.object ≡ o) c.args.triples.now c.loop-triple.triple-index c.triple-item.result [] c.loop-triple.objects c.push.new.self (omega arith) c.triple-item.is c.loop-triple.invariant
    (gave (λ (o : Term). c.triple-item.result.object ≡ o) c.loop-triple.objects c.push.new.self c.triple-item.result.object (rw c.in_ok-clone.ensures.cases at c.in_ok-push.ensures.ok) refl (λ x e. sym e))

pub returns : goal.returns
returns c = from_none (λ (t : Triple) (o : Term). t.object ≡ o) c.args.triples.now c.loop-triple.objects (gathered_all (λ (t : Triple) (o : Term). t.object ≡ o) c.args.triples.now c.loop-triple.triple-index [] c.loop-triple.objects (omega arith) c.loop-triple.invariant)
