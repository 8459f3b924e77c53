use Rattle.bgp_query.proofs.Rows.{may_stand}
use Rattle.bgp_query.proofs.join.triples_for.Goals as goal

pub returns : goal.returns
returns g c = may_stand (g.R.Triples.triples c.args.search.now.set.now) c.args.trail.now c.args.pattern.now c.known_number-subject.result c.known_number-predicate.result c.known_number-object.result c.in_ok-found_for.field-0.items
    c.known_number-subject.ensures c.known_number-predicate.ensures c.known_number-object.ensures c.in_ok-found_for.ensures
