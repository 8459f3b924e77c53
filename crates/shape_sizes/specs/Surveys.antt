-- What the rules ask of a shapes graph again and again.
use Rattle.std.specs.Prelude.{List}
use Rattle.collections.specs.Listings.{IsListing}
use Rattle.rdf_model.specs.declared.triple.Triple.{Triple}
use Rattle.rdf_model.specs.Terms.{term_cmp, triple_cmp}
use Rattle.shape_references.specs.Siblings.{IsReversed}
use Rattle.shape_syntax.specs.PathNodes.{ArePathNodes}
use Rattle.shape_sizes.specs.declared.survey.Survey.{Survey}
use Rattle.shape_sizes.specs.PathLooks.{ArePathPlaces}
use Rattle.shape_sizes.specs.References.{AreReferences}
use Rattle.shape_properties.specs.Syntax.{IsShape}

-- it was asked of this graph
pub record IsSurvey (s : List Triple) (survey : Survey) : Type 0 where
  pub paths : ArePathNodes s survey.paths.keys
  pub places : ArePathPlaces s survey.places
  pub shapes : IsListing term_cmp (IsShape s) survey.shapes.items
  pub references : AreReferences s survey.references
  pub reversed : IsListing triple_cmp (IsReversed s) survey.reversed.items
