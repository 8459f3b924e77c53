use Rattle.std.proofs.Common.{◌≡◌, List, length, sym, subst, arith}
use Rattle.rdf_model.specs.declared.term.Term.{Term}
use Rattle.shape_syntax.specs.PathNodes.{ArePathNodes}
use Rattle.shape_syntax.proofs.Asked.{waiting_done}
use Rattle.shape_syntax.proofs.paths.ask_all.Goals as goal

pub returns-then-len : goal.returns-then-len
returns-then-len c =
    let s = c.args.graph.now in
    let asked = rw c.as_slice.ensures at c.in_ok-left.ensures in
    let all : length c.in_ok-left.left ≡ length c.loop-waiting.waiting = omega (arith, c.len.ensures, c.len-in-loop-waiting.ensures, c.if-len.true) in
    subst (λ (nodes : List Term). ArePathNodes s nodes) (sym c.into_paths.ensures)
    (waiting_done s c.loop-waiting.known.paths.keys c.loop-waiting.known.lists.keys c.ask_each.new.known.paths.keys c.ask_each.new.known.lists.keys c.loop-waiting.waiting c.in_ok-left.left c.loop-waiting.invariant asked all)
