use Rattle.std.proofs.lemmas.Result.{IfOk-weaker}
use Rattle.path_eval.specs.Relations.{IsFollowed, Repeated}
use Rattle.path_eval.specs.NumberedWalks.{Reaches}
use Rattle.path_eval.specs.NumberedLooks.{AtRepeated, Reads}
use Rattle.path_eval.specs.Walkers.{Goes, Sees, plan_of}
use Rattle.path_eval.proofs.Follow.{followed_same}
use Rattle.path_eval.proofs.Made.{made_any_number}
use Rattle.path_eval.proofs.walk.repeated_by_walker.Goals as goal

pub returns-clause-followed : goal.returns-clause-followed
returns-clause-followed g c =
    let ids = g.R.Triples.triples c.args.graph.now in
    let xs = c.args.starts.now in
    let plan = plan_of c.in_ok-walker.walker in
    let R = Reaches ids c.args.reversed c.args.path.now in
    let L = Reads ids c.args.reversed c.args.path.now in
    let old = c.args.footprint.now in
    let new = c.follow.new.footprint in
    let made = made_any_number c.in_ok-once.once c.in_ok-walker.walker (λ ids. Reaches ids c.args.reversed c.args.path.now) (λ ids. Reads ids c.args.reversed c.args.path.now) c.in_ok-once.ensures c.in_ok-walker.ensures in
    IfOk-weaker c.follow.result (λ ends. IsFollowed xs (Goes ids plan) (Sees ids plan) old new ends.items) (λ ends. IsFollowed xs (Repeated R) (AtRepeated R L) old new ends.items)
    (λ ends h. followed_same xs (Goes ids plan) (Repeated R) (Sees ids plan) (AtRepeated R L) old new ends.items (made.reaches ids) (made.reads ids) h) c.follow.ensures.followed
