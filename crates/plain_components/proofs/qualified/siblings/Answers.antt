use Rattle.plain_components.proofs.Closings.{no_siblings, siblings_found}
use Rattle.plain_components.proofs.qualified.siblings.Goals as goal

pub returns-then-branch : goal.returns-then-branch
returns-then-branch c = siblings_found c.args.shapes.now c.args.shape.now c.in_ok-found.found (c.in_ok-has_siblings.ensures.0 c.if-branch.true) c.in_ok-found.ensures

pub returns : goal.returns
returns c = no_siblings c.args.shapes.now c.args.shape.now c.new.result (λ h. let k = c.in_ok-has_siblings.ensures.1 h in cc (k, c.if-branch.false)) c.new.ensures
