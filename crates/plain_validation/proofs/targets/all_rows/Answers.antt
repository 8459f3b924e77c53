use Rattle.plain_validation.proofs.AllResults.{results_found}
use Rattle.plain_validation.proofs.targets.all_rows.Goals as goal

pub returns : goal.returns
returns c = results_found c.args.graph.now c.args.shapes.now c.in_ok-rows.rows.items c.in_ok-more.more.items c.append.new.self.items c.in_ok-append.ensures.items c.in_ok-rows.ensures c.in_ok-more.ensures
