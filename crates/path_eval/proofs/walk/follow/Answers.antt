use Rattle.path_eval.proofs.Going.{follows}
use Rattle.path_eval.proofs.walk.follow.Goals as goal

pub returns-clause-followed : goal.returns-clause-followed
returns-clause-followed g c =
    let ids = g.R.Triples.triples c.args.graph.now in
    follows ids c.args.walker c.walk_on.new.walker c.args.starts.now c.in_ok-ends.ends.items c.in_ok-sorted_once.field-0.items c.args.footprint.now c.walk_on.new.footprint (c.requires ids c.args.footprint.now)
    c.in_ok-ends.ensures.ends c.in_ok-sorted_once.ensures
