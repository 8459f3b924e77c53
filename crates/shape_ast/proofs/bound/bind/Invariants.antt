use Rattle.shape_ast.specs.Binding.{AreBoundFrom}
use Rattle.std.proofs.Common.{length, take}
use Rattle.shape_ast.proofs.bound.bind.Given as goal

abbrev pub invariant-loop-shape : goal.invariant-loop-shape
invariant-loop-shape g l = AreBoundFrom (g.N.Names.terms l.names) (length l.all) (take l.shape-index l.all) l.bound
