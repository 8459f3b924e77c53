use Rattle.std.proofs.lemmas.Result.{IfOk-weaker}
use Rattle.path_eval.specs.Relations.{IsFollowed}
use Rattle.path_eval.specs.NumberedWalks.{Reaches}
use Rattle.path_eval.specs.NumberedLooks.{Reads}
use Rattle.path_eval.specs.Walkers.{Goes, Sees, plan_of}
use Rattle.path_eval.proofs.Follow.{followed_same}
use Rattle.path_eval.proofs.walk.walked.Goals as goal

pub returns-clause-followed : goal.returns-clause-followed
returns-clause-followed g c =
    let ids = g.R.Triples.triples c.args.graph.now in
    let xs = c.args.starts.now in
    let plan = plan_of c.in_ok-walker.walker in
    let R = Reaches ids c.args.reversed c.args.path.now in
    let L = Reads ids c.args.reversed c.args.path.now in
    let old = c.args.footprint.now in
    let new = c.follow.new.footprint in
    IfOk-weaker c.follow.result (λ ends. IsFollowed xs (Goes ids plan) (Sees ids plan) old new ends.items) (λ ends. IsFollowed xs R L old new ends.items)
    (λ ends h. followed_same xs (Goes ids plan) R (Sees ids plan) L old new ends.items (c.in_ok-walker.ensures.reaches ids) (c.in_ok-walker.ensures.reads ids) h) c.follow.ensures.followed
