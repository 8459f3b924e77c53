use Rattle.std.proofs.Common.{subst}
use Rattle.data_graph.specs.DataGraphs.{NamedGraph}
use Rattle.data_graph.specs.Pairs.{HasListing}
use Rattle.data_graph.proofs.Existing.{has_listing}
use Rattle.data_graph.proofs.validated.ValidatedGraph.recall_listing.Goals as goal

pub returns : goal.returns
returns c =
    let d = c.self.inside.graph in
    subst (λ (e : NamedGraph). HasListing e.triples e.shapes) c.self.view_is (has_listing d.terms d.triples d.shapes c.self.inside.rows c.self.invariant)
