-- What is told of the shapes that a shape refers to.
use Rattle.std.specs.Prelude.{◌≡◌, ◌⊎◌, ℕ, List}
use Rattle.rdf_model.specs.declared.term.Term.{Term}
use Rattle.rdf_model.specs.declared.triple.Triple.{Triple}
use Rattle.shape_model.specs.Readings.{reading}
use Rattle.shape_model.specs.Triples.{Has}
use Rattle.shape_model.specs.Validation.{AtDepth}
use Rattle.shape_model.specs.declared.result_row.ResultRow.{ResultRow}
use Rattle.plain_values.specs.declared.site.ToldRow.{ToldRow}
use Rattle.plain_terms.specs.Finds.{IsListed}

-- a value of the property at the shape, or a member of a list that is one
abbrev pub NamedReference : List Triple → Term → Term → Term → Type 0
NamedReference s shape p m = Has s shape p m ⊎ ((head : Term) × Has s shape p head × IsListed s head m)

-- the result, told of the shape at the node
abbrev pub IsEntry : Term → Term → ResultRow → ToldRow → Type 0
IsEntry shape node row e = e ≡ record { shape = shape; node = node; row = row }

-- what is told of a result of the shape at the node, through chains of fewer references than n
abbrev pub ToldAt : ℕ → List Triple → List Triple → Term → Term → ToldRow → Type 0
ToldAt n g s shape node e = (row : ResultRow) × AtDepth n g (reading s) shape node row × IsEntry shape node row e
