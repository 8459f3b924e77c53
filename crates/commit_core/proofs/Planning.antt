-- From what the listing makes of a commit to its plan.
use Rattle.std.proofs.Common.{◌≡◌, List, Option, None, ap}
use Rattle.std.specs.Prelude.{IfOk, Result, Ok, Err}
use Rattle.std.specs.declared.alloc.AllocError.{AllocError}
use Rattle.rdf_model.specs.declared.triple.Triple.{Triple}
use Rattle.store_model.specs.Store.{shapes_under}
use Rattle.store_model.specs.declared.commit.Accepted.{Accepted}
use Rattle.store_model.specs.declared.commit.Transaction.{Transaction}
use Rattle.store_model.specs.declared.event.Limits.{Limits}
use Rattle.data_graph.specs.DataGraphs.{NamedGraph, with_changes, with_shapes}
use Rattle.commit_core.specs.declared.commit.Plan.{Plan}
use Rattle.commit_core.specs.declared.commit.Plan.TheVariants.{Overtaken, TooLarge, Refuse, Accept}
use Rattle.commit_core.specs.Commits.{IsJudged, IsPlan, IsWithin, committed_graph}

judged_plan : (l : Limits) (g : NamedGraph) (commits : List Accepted) (x : Transaction) (p : Plan) → IsWithin l g.triples commits x → IsJudged l.mode g x p → IsPlan l g commits x p
judged_plan l g commits x (Overtaken o t) w j = absurd j
judged_plan l g commits x (TooLarge n) w j = absurd j
judged_plan l g commits x (Refuse p) w j = (w, j)
judged_plan l g commits x (Accept p) w j = (w, j)

pub judged_result : (l : Limits) (g : NamedGraph) (commits : List Accepted) (x : Transaction) (r : Result Plan AllocError) → IsWithin l g.triples commits x → IfOk r (IsJudged l.mode g x) → IfOk r (IsPlan l g commits x)
judged_result l g commits x (Ok p) w j = judged_plan l g commits x p w j
judged_result l g commits x (Err e) w j = tt

-- without staged shapes a commit makes the graph after its changes
pub unstaged : (g : NamedGraph) (x : Transaction) → x.staged ≡ None → committed_graph g x ≡ with_changes g x.net
unstaged g x e = ap (λ (o : Option (List Triple)). with_shapes (with_changes g x.net) (shapes_under g.shapes o)) e
