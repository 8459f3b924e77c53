use Rattle.std.proofs.Common.{[]}
use Rattle.rdf_model.specs.Graphs.{with_each}
use Rattle.record_text.proofs.StoredTerms.{gives_readable_graph}
use Rattle.session_model.proofs.block.Block.read_named.Goals as goal

pub from_table-requires : goal.from_table-requires
from_table-requires c = gives_readable_graph c.args.text.now (with_each [] c.in_ok-table.table) c.in_ok-table.ensures
