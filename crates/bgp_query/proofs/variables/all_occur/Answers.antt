use borrow.Author.Count.{below_more}
use Rattle.bgp_query.specs.Bindings.{Occurs}
use Rattle.bgp_query.proofs.variables.all_occur.Goals as goal

pub loop-variable-preserved : goal.loop-variable-preserved
loop-variable-preserved c = below_more (λ v. Occurs c.args.patterns.now v) c.loop-variable.variable c.loop-variable.invariant (c.occurs.ensures.0 c.if-not-occurs.false)
