-- The references that one triple shows.
use Rattle.std.specs.Prelude.{◌≡◌, List}
use Rattle.rdf_model.specs.declared.term.Term.{Term}
use Rattle.rdf_model.specs.declared.triple.Triple.{Triple}
use Rattle.shape_properties.specs.OfProperties.{TakenBy}

-- by the triple its subject a takes b as a shape
abbrev pub IsReferredBy : List Triple → Triple → Term → Term → Type 0
IsReferredBy s t a b = (t.subject ≡ a) × TakenBy s t b
