-- The members of a graph by numbers, as more terms have come.
use Rattle.std.proofs.Common.{List, []}
use Rattle.std.specs.Prelude.{◌↔◌}
use Rattle.std.specs.List.{Contains}
use Rattle.rdf_model.specs.declared.term.Term.{Term}
use Rattle.rdf_model.specs.declared.ids.Ids.{Ids}
use Rattle.rdf_model.specs.declared.triple.Triple.{Triple}
use Rattle.rdf_model.specs.Numbers.{AreNumbered, graph_of}
use Rattle.rdf_model.specs.Graphs.{with_each}
use Rattle.data_graph.specs.DataGraphs.{IsIndexOf}
use Rattle.turtle_reader.proofs.Sorting.{each_members}

pub in_graph : (us vs : List Term) (ids others : List Ids) (g : List Triple) → IsIndexOf vs others (graph_of us ids) → IsIndexOf us ids g → (t : Triple) → Contains (graph_of vs others) t ↔ Contains g t
in_graph us vs ids others g later is t = (λ c. (is.members t).0 ((later.members t).0 c), λ c. (later.members t).1 ((is.members t).1 c))

pub own_index : (terms : List Term) (ids : List Ids) → AreNumbered terms ids → IsIndexOf terms ids (graph_of terms ids)
own_index terms ids a = record { numbered = a; members = λ t. (λ c. c, λ c. c) }

-- an index of triples that were found is one of their graph
pub each_index : (terms : List Term) (ids : List Ids) (found : List Triple) → IsIndexOf terms ids found → IsIndexOf terms ids (with_each [] found)
each_index terms ids found is = record {
  numbered = is.numbered;
  members = λ t. (λ c. (each_members found t).0 ((is.members t).0 c), λ c. (is.members t).1 ((each_members found t).1 c));
}
