use Rattle.std.proofs.Common.{◌∙◌, ◌++◌, append-nil, sym, ap, arith}
use Rattle.std.proofs.lemmas.List.{take_all}
use Rattle.shape_references.proofs.BoundNames.{copied_next}
use Rattle.shape_references.proofs.names.push_terms.Goals as goal

pub loop-term-init : goal.loop-term-init
loop-term-init c = sym (append-nil c.args.nodes.now)

pub loop-term-preserved : goal.loop-term-preserved
loop-term-preserved c = copied_next c.args.nodes.now c.loop-term.nodes c.push.new.self c.args.terms.now c.loop-term.term-index c.term-item.result (omega arith) c.term-item.is c.loop-term.invariant (rw c.in_ok-clone.ensures.cases at c.in_ok-push.ensures.ok)

pub returns : goal.returns
returns c = c.loop-term.invariant ∙ ap (λ zs. c.args.nodes.now ++ zs) (take_all c.loop-term.term-index c.args.terms.now (omega arith))
