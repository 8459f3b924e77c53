use Rattle.std.proofs.Common.{subst}
use Rattle.data_graph.specs.DataGraphs.{NamedGraph}
use Rattle.commit_core.specs.Outcomes.{TellsBlocking}
use Rattle.commit_core.proofs.outcome.Outcome.whole.Goals as goal

pub returns-clause-outcome : goal.returns-clause-outcome
returns-clause-outcome g c =
    let same = c.in_ok-validated.ensures.graph in
    (same, subst (λ (d : NamedGraph). TellsBlocking c.args.mode d.triples d.shapes c.in_ok-blocks.blocks) same c.in_ok-blocks.ensures)
