use Rattle.std.proofs.Common.{◌≡◌, refl, sym, subst}
use Rattle.rdf_model.specs.declared.term.Term.{Term}
use Rattle.shape_syntax.proofs.Loops.{gave, gave_none}
use Rattle.shape_references.specs.Siblings.{IsForeign}
use Rattle.shape_references.proofs.siblings.push_foreign.Goals as goal

pub returns-then-is_own : goal.returns-then-is_own
returns-then-is_own c = gave_none (λ (t : Term). (c.args.value.now ≡ t) × IsForeign c.args.graph.now c.args.shape.now t) c.args.nodes.now
    (λ t h. subst (λ (x : Term). IsForeign c.args.graph.now c.args.shape.now x) (sym h.0) h.1 (c.is_own.ensures.0 c.if-is_own.true))

pub returns : goal.returns
returns c = gave (λ (t : Term). (c.args.value.now ≡ t) × IsForeign c.args.graph.now c.args.shape.now t) c.args.nodes.now c.push.new.self c.args.value.now (rw c.in_ok-clone.ensures.cases at c.in_ok-push.ensures.ok)
    (refl, λ h. let k = c.is_own.ensures.1 h in cc) (λ x h. sym h.0)
