use Rattle.std.proofs.Common.{◌≡◌, refl, sym, subst}
use Rattle.rdf_model.specs.declared.term.Term.{Term}
use Rattle.shape_syntax.proofs.Loops.{gave, gave_none}
use Rattle.shape_references.specs.Siblings.{MayHaveSiblings}
use Rattle.shape_references.proofs.siblings.push_if_disjoint.Goals as goal

pub returns-then-may_have_siblings : goal.returns-then-may_have_siblings
returns-then-may_have_siblings c = gave (λ (t : Term). (c.args.shape.now ≡ t) × MayHaveSiblings c.args.graph.now t) c.args.nodes.now c.push.new.self c.args.shape.now (rw c.in_ok-clone.ensures.cases at c.in_ok-push.ensures.ok)
    (refl, c.may_have_siblings.ensures.0 c.if-may_have_siblings.true) (λ x h. sym h.0)

pub returns : goal.returns
returns c = gave_none (λ (t : Term). (c.args.shape.now ≡ t) × MayHaveSiblings c.args.graph.now t) c.args.nodes.now
    (λ t h. let k = c.may_have_siblings.ensures.1 (subst (λ (x : Term). MayHaveSiblings c.args.graph.now x) (sym h.0) h.1) in cc)
