use Rattle.std.proofs.Common.{List, ℕ, subst}
use Rattle.std.proofs.lemmas.Map.Iter.{btree_map_turn}
use Rattle.rdf_model.specs.declared.term.Term.{Term}
use Rattle.rdf_model.specs.Orders.{term_total}
use Rattle.reference_totals.proofs.Telling.{AreTelling, telling_done, telling_next, telling_none}
use Rattle.reference_totals.proofs.tables.table_of.Goals as goal

pub loop-node-init : goal.loop-node-init
loop-node-init c = telling_none c.args.numbers c.args.known.now c.new-table.result c.into_iter-node-iterator.result c.new-table.ensures.empty c.into_iter-node-iterator.ensures.into_iter_gives.0

pub loop-node-preserved : goal.loop-node-preserved
loop-node-preserved c =
    let turn = btree_map_turn (λ (p : Term × ℕ). p) c.loop-node.yielded c.into_iter-node-iterator.result c.loop-node.node-iterator c.next.new.self c.next.result (c.in-Some.node, c.in-Some.number)
    c.loop-node.yielded_by c.in-Some.is c.next.ensures.steps term_total c.args.numbers c.into_iter-node-iterator.ensures.into_iter_gives.0 c.into_iter-node-iterator.ensures.into_iter_gives.5 in
    telling_next c.args.numbers c.args.known.now c.loop-node.table c.note.new.table c.in-Some.node c.in-Some.number c.next.new.self
    turn.1 c.total_at.result c.total_at.ensures c.in_ok-note.ensures
    (subst (λ (rest : List (Term × ℕ)). AreTelling c.args.numbers c.args.known.now c.loop-node.table rest) c.in-Some.ensures.steps c.loop-node.invariant)

pub returns : goal.returns
returns c = telling_done c.args.numbers c.args.known.now c.loop-node.table c.loop-node.node-iterator c.in-None.ensures.steps.0 c.loop-node.invariant
