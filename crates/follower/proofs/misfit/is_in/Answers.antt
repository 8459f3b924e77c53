use Rattle.follower.proofs.Tests.{tells}
use Rattle.follower.proofs.misfit.is_in.Goals as goal

pub returns : goal.returns
returns c =
    tells c.args.names.now.terms c.args.graph.now c.number_triple.result c.args.triple.now c.contains.result c.recall_numbering.ensures c.requires.numbered
    c.number_triple.ensures.bound c.number_triple.ensures.triple c.contains.ensures
