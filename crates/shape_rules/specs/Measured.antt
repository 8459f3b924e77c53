-- What is measured of all shapes at once.
use Rattle.std.specs.Prelude.{◌≡◌, List}
use Rattle.rdf_model.specs.declared.triple.Triple.{Triple}
use Rattle.shape_model.specs.Limits.{looks_limit}
use Rattle.shape_rules.specs.declared.limits.Measures.{Measures}
use Rattle.shape_sizes.specs.Counted.{AreWeights}
use Rattle.shape_sizes.specs.PathLooks.{AreDeepPaths}
use Rattle.shape_sizes.specs.Sizes.{IsLookWeight, size_limit}

-- the paths, the sizes and the looks are those of this graph
pub record AreMeasures (s : List Triple) (measures : Measures) : Type 0 where
  pub deep : AreDeepPaths s 256 measures.deep.keys
  pub sizes : AreWeights s (λ m w. w ≡ 1) size_limit measures.sizes
  pub looks : AreWeights s (IsLookWeight s) looks_limit measures.looks
