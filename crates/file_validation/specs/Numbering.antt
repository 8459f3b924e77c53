-- A data graph by the numbers of its terms.
use Rattle.std.specs.Prelude.{List}
use Rattle.rdf_model.specs.declared.triple.Triple.{Triple}
use Rattle.data_graph.specs.DataGraphs.{IsIndexOf}
use Rattle.path_eval.specs.Instances.{AreClassWords}
use Rattle.parallel_validate.specs.Named.{AreNamedTriples}
use Rattle.file_validation.specs.declared.naming.NumberedGraph.{NumberedGraph}

-- The numbers stand for the graph, all terms of the shapes are named too, and the words are the numbers of rdf:type and rdfs:subClassOf.
pub record IsNumberedGraph (graph shapes : List Triple) (n : NumberedGraph) : Type 0 where
  pub words : AreClassWords n.names n.words
  pub index : IsIndexOf n.names n.triples graph
  pub named : AreNamedTriples n.names shapes
