use Rattle.shape_ast.specs.declared.target.Target.TheVariants.{ImplicitClass}
use Rattle.shape_ast.proofs.Distinct.{distinct_push}
use Rattle.shape_reader.proofs.target.push_implicit.Goals as goal

pub returns-then-class-clause-once : goal.returns-then-class-clause-once
returns-then-class-clause-once c = λ apart once. rw c.in_ok-push.ensures.ok (distinct_push c.args.targets.now ImplicitClass once apart)
