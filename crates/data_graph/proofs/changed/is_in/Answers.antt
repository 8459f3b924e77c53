use Rattle.data_graph.proofs.Tests.{ids_test_is}
use Rattle.data_graph.proofs.changed.is_in.Goals as goal

pub returns : goal.returns
returns c = ids_test_is c.contains.result c.args.set.now c.args.triple c.contains.ensures
