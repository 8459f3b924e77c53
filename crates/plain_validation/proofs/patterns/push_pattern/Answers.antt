use Rattle.plain_validation.proofs.Taken.{adds_one}
use Rattle.plain_validation.proofs.patterns.push_pattern.Goals as goal

pub returns-in_ok-push-in-Some : goal.returns-in_ok-push-in-Some
returns-in_ok-push-in-Some c = adds_one c.args.shape.now c.in-Some.pattern c.in_ok-built_pattern-in-Some.field-0 c.args.found.now.items c.push.new.self.items c.in-Some.is c.in_ok-built_pattern-in-Some.ensures c.in_ok-push-in-Some.ensures.items
