use Rattle.std.proofs.Common.{List, subst, sym}
use Rattle.shape_references.specs.declared.bundle.Bundle.{Bundle}
use Rattle.shape_sizes.specs.References.{AreReferences}
use Rattle.shape_sizes.proofs.survey.survey_of.Goals as goal

pub returns : goal.returns
returns c = record {
  paths = c.in_ok-paths.ensures;
  places = c.in_ok-places.ensures;
  shapes = c.in_ok-shapes.ensures;
  references = subst (λ (bundles : List Bundle). AreReferences c.args.graph.now bundles) (sym c.in_ok-references.ensures) c.in_ok-bundles.ensures;
  reversed = c.in_ok-reversed.ensures;
}
