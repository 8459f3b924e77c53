use Rattle.focus_affected.proofs.Rows.{pushed_under}
use Rattle.focus_affected.proofs.index.push_under.Goals as goal

pub returns : goal.returns
returns c = λ at. pushed_under c.args.rows.now c.args.predicate c.with_predicate.result.now c.with_predicate.ensures c.args.places.now.items c.push_places.new.places.items c.in_ok-push_places.ensures at
