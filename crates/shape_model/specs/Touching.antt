-- What the changes of a transaction touch.
use Rattle.std.specs.Prelude.{◌⊎◌, List}
use Rattle.std.specs.List.{Contains}
use Rattle.rdf_model.specs.declared.term.Term.{Term}
use Rattle.rdf_model.specs.declared.triple.Triple.{Triple}
use Rattle.rdf_model.specs.declared.change.Change.{Change}
use Rattle.rdf_model.specs.declared.change.Change.TheVariants.{Add, Remove}
use Rattle.shape_model.specs.Walks.{Walks}
use Rattle.shape_model.specs.Readings.{reading}
use Rattle.shape_model.specs.Targets.{HasTarget}
use Rattle.shape_model.specs.Looks.{Matches, LookRow, look_at}
use Rattle.shape_model.specs.ShapeLooks.{Looks}

-- the triple is added or removed, whether the graph had it or not
abbrev pub IsChanged : List Change → Triple → Type 0
IsChanged net t = Contains net (Add t) ⊎ Contains net (Remove t)

-- a changed triple matches a row of the shape, which has a target, at a node to which f walks in g
abbrev pub Touched : List Triple → List Triple → List Change → Term → Term → Type 0
Touched g s net shape f = HasTarget (reading s shape)
    × ((row : LookRow) × Looks s shape row × ((z : Term) × Walks g row.way f z × ((t : Triple) × Matches (look_at row.kind z) t × IsChanged net t)))
