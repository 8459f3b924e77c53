-- The parameters of a node (SHACL 2.1), as its triples say them.
use Rattle.std.specs.Prelude.{◌≡◌, Bool, true, false, IsTrue}
use Rattle.rdf_model.specs.declared.term.Term.{Term}
use Rattle.rdf_model.specs.declared.triple.Triple.{Triple}
use Rattle.shape_properties.specs.declared.table.Role.{Role}
use Rattle.shape_properties.specs.declared.table.Role.TheVariants as roles
use Rattle.shape_properties.specs.OfProperties.{OfTriple}
use Rattle.shape_properties.specs.Table.{role}

-- the roles of parameters
abbrev pub is_param : Role → Bool
is_param roles.DeclaresTargets = false
is_param roles.ExpectsShape = true
is_param roles.TakesShapes = true
is_param roles.Parameter = true
is_param roles.Other = false

-- the triple says that its subject has a parameter
abbrev pub OfParam : Triple → Type 0
OfParam t = OfTriple t (λ p v. IsTrue (is_param (role p)))

-- its property and its value are these
abbrev pub SaysParam : Triple → Term × Term → Type 0
SaysParam t param = OfParam t × (param ≡ (t.predicate, t.object))

-- the triple of the node that says the parameter
abbrev pub param_triple : Term → Term × Term → Triple
param_triple n param = record { subject = n; predicate = param.0; object = param.1 }
