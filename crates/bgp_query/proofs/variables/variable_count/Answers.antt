use Rattle.std.proofs.Common.{ℕ}
use Rattle.bgp_query.specs.declared.pattern.JoinPattern.{JoinPattern}
use Rattle.bgp_query.specs.declared.pattern.Part.TheVariants.{Variable}
use Rattle.bgp_query.proofs.Reaching.{reach_more}
use Rattle.bgp_query.proofs.variables.variable_count.Goals as goal

pub loop-pattern-preserved : goal.loop-pattern-preserved
loop-pattern-preserved c =
    let d : JoinPattern ℕ = record { subject = Variable 0; predicate = Variable 0; object = Variable 0 } in
    reach_more c.args.patterns.now c.loop-pattern.pattern-index d c.loop-pattern.count c.pattern_reach.result c.max-count.result c.loop-pattern-test.true c.loop-pattern.invariant c.pattern_reach.ensures c.max-count.ensures
