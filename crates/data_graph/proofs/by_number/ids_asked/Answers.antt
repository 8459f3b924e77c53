use Rattle.data_graph.proofs.ByNumber.{asked_listed}
use Rattle.data_graph.proofs.by_number.ids_asked.Goals as goal

pub returns-in_ok-find_pattern-in-Some : goal.returns-in_ok-find_pattern-in-Some
returns-in_ok-find_pattern-in-Some c = asked_listed c.args.names.now.terms c.args.pattern.now c.args.index.now c.requires c.in-Some.asked.subject c.in-Some.asked.predicate c.in-Some.asked.object c.in_ok-find_pattern-in-Some.field-0.items c.in-Some.ensures c.in_ok-find_pattern-in-Some.ensures
