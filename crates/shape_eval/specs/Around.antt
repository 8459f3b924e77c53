-- What the constraints of a shape read at a focus node, by the numbers of its value nodes.
use Rattle.std.specs.Prelude.{ℕ, List}
use Rattle.rdf_model.specs.declared.term.Term.{Term}
use Rattle.rdf_model.specs.declared.triple.Triple.{Triple}
use Rattle.rdf_model.specs.declared.ids.Ids.{Ids}
use Rattle.rdf_model.specs.Numbers.{term_at, graph_of}
use Rattle.shape_model.specs.Components.{Surroundings}
use Rattle.shape_model.specs.Instances.{Instance}
use Rattle.shape_model.specs.Readings.{reading}
use Rattle.shape_model.specs.Triples.{Has}
use Rattle.shape_model.specs.Validation.{AtDepth}
use Rattle.component_rows.specs.Nodes.{HasNode}

-- The surroundings of a focus node with these value nodes, where the shapes of the shapes graph s give their results
-- through chains of fewer references than n.
abbrev pub around : List Term → List Ids → List Triple → ℕ → List ℕ → ℕ → Surroundings
around terms ids s n values f = record {
  value_node = HasNode terms values;
  instance = Instance (graph_of terms ids);
  focus_value = Has (graph_of terms ids) (term_at terms f);
  triple = Has (graph_of terms ids);
  row = AtDepth n (graph_of terms ids) (reading s);
}
