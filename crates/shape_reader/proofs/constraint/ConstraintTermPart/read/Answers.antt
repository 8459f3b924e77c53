use Rattle.shape_reader.proofs.Sayings.{constraint_by}
use Rattle.shape_reader.proofs.constraint.ConstraintTermPart.read.Goals as goal

pub returns-clause-by : goal.returns-clause-by
returns-clause-by c = λ n x e. constraint_by c.args.shape.now.graph c.args.shape.now.nodes n c.args.property c.args.value.now x ((rw c.kind_of.ensures at c.in_ok-found.ensures x).0 e)
