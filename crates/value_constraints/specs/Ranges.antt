-- Where a value has to lie (SHACL 4.3).
use Rattle.rdf_model.specs.declared.term.Term.{Term}
use Rattle.shape_model.specs.TermTests.{IsLess, IsAtMost}
use Rattle.value_constraints.specs.declared.range.Side.{Side}
use Rattle.value_constraints.specs.declared.range.Side.TheVariants.{Above, AtLeast, Below, AtMost}

-- the value lies on that side of the bound
abbrev pub IsWithin : Side → Term → Term → Type 0
IsWithin Above bound v = IsLess bound v
IsWithin AtLeast bound v = IsAtMost bound v
IsWithin Below bound v = IsLess v bound
IsWithin AtMost bound v = IsAtMost v bound
