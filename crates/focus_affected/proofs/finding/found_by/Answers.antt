use Rattle.focus_affected.proofs.Matched.{found_matched}
use Rattle.focus_affected.proofs.finding.found_by.Goals as goal

pub returns-clause-found : goal.returns-clause-found
returns-clause-found g c =
    found_matched (g.R.Triples.triples c.args.graph.now) c.args.look.now c.args.changed.now c.in_ok-nodes.nodes.items c.in_ok-found_from.field-0.items c.args.footprint.now c.found_from.new.footprint
    c.in_ok-nodes.ensures c.in_ok-found_from.ensures.found
