use Rattle.std.proofs.Common.{◌∙◌, [], ap}
use Rattle.rdf_model.specs.Graphs.{with_each}
use Rattle.data_graph.proofs.ByNumber.{each_numbered}
use Rattle.data_graph.proofs.Listed.{one_listing}
use Rattle.data_graph.proofs.by_number.sorted_triples.Goals as goal

pub read_triples-requires : goal.read_triples-requires
read_triples-requires c = each_numbered c.args.names.now.terms c.args.ids.now c.requires

pub returns : goal.returns
returns c = one_listing c.in_ok-triples.triples.items c.in_ok-sorted_once.field-0.items c.in_ok-sorted_once.ensures ∙ ap (with_each []) c.in_ok-triples.ensures
