use Rattle.std.proofs.Common.{◌≡◌, ◌∙◌, ap, refl, sym, arith, inl, inr}
use Rattle.rdf_model.specs.declared.term.Term.{Term}
use Rattle.rdf_model.specs.declared.triple.Triple.{Triple}
use Rattle.shape_syntax.proofs.Scans.{cases_more, in_all}
use Rattle.shape_syntax.proofs.Loops.{gave}
use Rattle.shape_references.proofs.loops.push_subjects.Goals as goal

pub loop-triple-preserved : goal.loop-triple-preserved
loop-triple-preserved c = λ n has.
    let pushed = gave (λ (m : Term). c.triple-item.result.subject ≡ m) c.loop-triple.pending c.push.new.self c.triple-item.result.subject (rw c.in_ok-clone.ensures.cases at c.in_ok-push.ensures.ok) refl (λ x e. sym e) n in
    elim (cases_more c.args.graph.now c.loop-triple.triple-index c.triple-item.result (omega arith) c.triple-item.is has.0 has.1) [
      | inl old ↦ pushed.1 (inl (c.loop-triple.invariant n (has.0, old, has.2)))
      | inr e ↦ pushed.1 (inr (ap (λ (t : Triple). t.subject) e ∙ has.2))
    ]

pub returns : goal.returns
returns c = λ n has. c.loop-triple.invariant n (has.0, in_all c.args.graph.now c.loop-triple.triple-index (omega arith) has.0 has.1, has.2)
