use Rattle.std.proofs.Common.{List, subst}
use Rattle.bgp_query.specs.declared.trail.BoundVariable.{BoundVariable}
use Rattle.bgp_query.specs.Trails.{IsFree}
use Rattle.bgp_query.proofs.Trailing.{variable_new}
use Rattle.bgp_query.proofs.trail.give_variable.Goals as goal

pub returns-in_ok-push-in-None : goal.returns-in_ok-push-in-None
returns-in_ok-push-in-None c = variable_new c.args.trail.now.items c.push.new.self.items c.args.variable c.args.number
    (subst (λ (bs : List BoundVariable). IsFree bs c.args.variable) c.deref.ensures.value c.in-None.ensures) c.in_ok-push-in-None.ensures.items
