-- What the components of a shape read at a focus node, where the results of the shapes that it refers to are told.
use Rattle.std.specs.Prelude.{◌≡◌, List}
use Rattle.std.specs.List.{Contains}
use Rattle.rdf_model.specs.declared.term.Term.{Term}
use Rattle.shape_model.specs.declared.component.Component.{Component}
use Rattle.shape_model.specs.declared.component.Component.TheVariants as components
use Rattle.shape_model.specs.declared.result_row.ResultRow.{ResultRow}
use Rattle.shape_model.specs.Components.{Finding, ForEach, RowsOf, Surroundings, found_at, row_of}
use Rattle.shape_model.specs.Instances.{Instance}
use Rattle.shape_model.specs.Readings.{reading}
use Rattle.shape_model.specs.ShapeSyntax.{ListOf}
use Rattle.shape_model.specs.Triples.{Has}
use Rattle.plain_values.specs.declared.site.ToldRow.{ToldRow}
use Rattle.plain_values.specs.declared.site.PlainSite.{PlainSite}

-- the shape gives the result at the node, as is told
abbrev pub IsTold : List ToldRow → Term → Term → ResultRow → Type 0
IsTold told shape node row = Contains told (record { shape = shape; node = node; row = row })

abbrev pub around : PlainSite → Surroundings
around p = record {
  value_node = Contains p.values.now;
  instance = Instance p.graph.now;
  focus_value = Has p.graph.now p.focus.now;
  triple = Has p.graph.now;
  row = IsTold p.told.now;
}

-- a result of a component of the shape at the focus node, for the value q of its parameter
abbrev pub row_at : PlainSite → Component → Term → Finding → ResultRow
row_at p c q = row_of c p.shape.now p.focus.now q

-- those of the component, and one for each value node of which P holds
abbrev pub RowsAt : PlainSite → Component → Term → ResultRow → Type 0
RowsAt p c q = RowsOf c (around p) (reading p.shapes.now p.shape.now) q (row_at p c q)

abbrev pub EachAt : PlainSite → Component → Term → (Term → Type 0) → ResultRow → Type 0
EachAt p c q P = ForEach (around p) (row_at p c q) P

-- one about each term of the list that is no value node
abbrev pub MissingAt : PlainSite → Term → List Term → ResultRow → Type 0
MissingAt p q others r = (w : Term) × Contains others w × (Contains p.values.now w → ⊥) × (r ≡ row_at p components.Equals q (found_at w))

-- one for each value node of which P holds with the members of the list that q is the head of
abbrev pub ListRow : PlainSite → Component → Term → (List Term → Term → Type 0) → ResultRow → Type 0
ListRow p c q P r = (members : List Term) × ListOf p.shapes.now q members × EachAt p c q (P members) r
