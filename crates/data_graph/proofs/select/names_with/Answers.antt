use Rattle.data_graph.proofs.ByPlaces.{changes_named}
use Rattle.data_graph.proofs.select.names_with.Goals as goal

pub returns-clause-named : goal.returns-clause-named
returns-clause-named c =
    changes_named c.name_all.new.self.terms c.parts.result.0.now c.in_ok-name_all.field-0.items c.in_ok-name_all.ensures.numbers c.parts.result.1.now c.args.net.now c.parts.ensures.changes c.parts.ensures.numbered
