use Rattle.std.proofs.Common.{sym, subst}
use Rattle.shape_ast.specs.Once.{AreOnce}
use Rattle.shape_ast.specs.Standing.{AreCompiled}
use Rattle.shape_rules.specs.Broken.{IsWellFormed}
use Rattle.shapes_graph.specs.declared.graph.Content.{Content}
use Rattle.shapes_graph.proofs.graph.ShapesGraph.share.Goals as goal

pub invariant_of-result : goal.invariant_of-result
invariant_of-result c = subst (λ (k : Content). IsWellFormed k.triples × AreCompiled k.shapes.shapes k.triples × AreOnce k.shapes.shapes) (sym c.in_ok-try_clone.ensures) c.self.invariant
