use Rattle.term_joins.proofs.Naming.{patterns_more}
use Rattle.term_joins.proofs.numbered.numbered_patterns.Goals as goal

pub loop-pattern-preserved : goal.loop-pattern-preserved
loop-pattern-preserved g c =
    patterns_more (g.N.Names.terms c.args.names.now) c.args.patterns.now c.loop-pattern.pattern-index c.pattern-item.result c.loop-pattern.numbered.items c.in-Some.one c.push.new.self.items
    c.loop-pattern-test.true c.pattern-item.is c.loop-pattern.invariant c.in-Some.ensures c.in_ok-push-in-Some.ensures.items
