use Rattle.std.proofs.Common.{List, subst, sym}
use Rattle.rdf_model.specs.declared.triple.Triple.{Triple}
use Rattle.shape_ast.specs.Once.{AreOnce}
use Rattle.shape_rules.specs.Broken.{IsWellFormed}
use Rattle.shapes_graph.specs.declared.graph.Content.{Content}
use Rattle.shapes_graph.proofs.graph.ShapesGraph.shapes.Goals as goal

pub returns-clause-well_formed : goal.returns-clause-well_formed
returns-clause-well_formed c = subst (λ (s : List Triple). IsWellFormed s) c.self.view_is c.self.invariant.0

pub returns-clause-once : goal.returns-clause-once
returns-clause-once c = subst (λ (k : Content). AreOnce k.shapes.shapes) (sym c.deref.ensures) c.self.invariant.2
