use Rattle.std.proofs.Common.{ℕ, IfOk, sym, subst}
use Rattle.path_ast.specs.declared.path.Path.{Path}
use Rattle.path_eval.specs.Relations.{IsFollowed}
use Rattle.path_eval.specs.NumberedWalks.{Reaches}
use Rattle.path_eval.specs.NumberedLooks.{Reads}
use Rattle.path_eval.proofs.walk.step.Goals as goal

pub returns-in-Predicate-clause-followed : goal.returns-in-Predicate-clause-followed
returns-in-Predicate-clause-followed g c =
    let ids = g.R.Triples.triples c.args.graph.now in
    subst (λ (p : Path ℕ). IfOk c.edges.result (λ ends. IsFollowed c.args.starts.now (Reaches ids c.args.reversed p) (Reads ids c.args.reversed p) c.args.footprint.now c.edges.new.footprint ends.items)) (sym c.in-Predicate.is) c.edges.ensures.followed
