use Rattle.std.proofs.Common.{◌<◌, ◌+◌, ◌*◌, ◌∷◌, ℕ, List, Bool, length, map, arith, sym, subst}
use Rattle.std.proofs.lemmas.Result.{err_from_is_err_and}
use Rattle.shape_model.specs.Looks.{LookRow}
use Rattle.shape_model.specs.Paths as defined
use Rattle.path_ast.specs.PathReadings.{defined_path, members}
use Rattle.path_ast.proofs.Sizes.{list_size, member_more, path_size}
use Rattle.read_plans.specs.PathRows.{path_rows, through_rows}
use Rattle.read_plans.specs.MemberRows.{backward_rows, each_rows, forward_rows}
use Rattle.read_plans.specs.Rows.{Adds}
use Rattle.read_plans.proofs.Copies.{alternative_parts, sequence_parts}
use Rattle.read_plans.proofs.Growing.{stopped_exit}
use Rattle.read_plans.proofs.PathMembers.{alternative_smaller, backward_members, backward_stopped, each_members, each_stopped, forward_members, forward_stopped, sequence_smaller}
use Rattle.read_plans.proofs.path_looks.+looking.Goals as goal

pub push_backward-push_path-requires-in-loop-index : goal.push_backward-push_path-requires-in-loop-index
push_backward-push_path-requires-in-loop-index t c =
    let lt : c.loop-index.index < length c.args.others.now = omega (arith, c.loop-index-test.true) in
    let less = member_more c.args.others.now c.loop-index.index c.index-others-index.result lt c.index-others-index.is in
    (subst (λ (n : ℕ). 4 * path_size c.index-others-index.result < n) c.decreases (omega (arith, less)), tt)

pub push_backward-returns-in_err-push_path-2 : goal.push_backward-returns-in_err-push_path-2
push_backward-returns-in_err-push_path-2 t c =
    let lt : c.loop-index.index < length c.args.others.now = omega (arith, c.loop-index-test.true) in
    let all = backward_rows (defined_path c.args.first.now ∷ map defined_path c.args.others.now) (map defined_path c.args.way.now) in
    let f = c.in_err-push_path-2.field-0.0 in
    let k = err_from_is_err_and c.from_residual-in_err-push_path-2.result c.from_residual-in_err-push_path-2.ensures.1 in
    stopped_exit all c.args.rows.now c.push_path-in-loop-index.new.rows c.from_residual-in_err-push_path-2.result f k.0 k.1 k.2
    (backward_stopped c.args.others.now c.loop-index.index c.index-others-index.result lt c.index-others-index.is c.args.rows.now c.loop-index.rows all f c.args.way.now c.in_ok-back-2.back c.as_slice-in-loop-index.result.now c.as_slice-in-loop-index.ensures c.in_ok-back-2.ensures c.loop-index.invariant c.in_err-push_path-2.ensures)

pub push_each-push_path-requires-in-loop-path : goal.push_each-push_path-requires-in-loop-path
push_each-push_path-requires-in-loop-path t c =
    let lt : c.loop-path.path-index < length c.args.others.now = omega (arith, c.loop-path-test.true) in
    let less = member_more c.args.others.now c.loop-path.path-index c.path-item.result lt c.path-item.is in
    (subst (λ (n : ℕ). 4 * path_size c.path-item.result < n) c.decreases (omega (arith, less)), tt)

pub push_each-returns-in_err-push_path-2 : goal.push_each-returns-in_err-push_path-2
push_each-returns-in_err-push_path-2 t c =
    let lt : c.loop-path.path-index < length c.args.others.now = omega (arith, c.loop-path-test.true) in
    let all = each_rows c.args.reversed (defined_path c.args.first.now ∷ map defined_path c.args.others.now) (map defined_path c.args.way.now) in
    let f = c.in_err-push_path-2.field-0.0 in
    let k = err_from_is_err_and c.from_residual-in_err-push_path-2.result c.from_residual-in_err-push_path-2.ensures.1 in
    stopped_exit all c.args.rows.now c.push_path-in-loop-path.new.rows c.from_residual-in_err-push_path-2.result f k.0 k.1 k.2
    (each_stopped c.args.others.now c.loop-path.path-index c.path-item.result lt c.path-item.is c.args.rows.now c.loop-path.rows all f c.args.reversed c.args.way.now c.loop-path.invariant c.in_err-push_path-2.ensures)

pub push_forward-push_path-requires-in-loop-path : goal.push_forward-push_path-requires-in-loop-path
push_forward-push_path-requires-in-loop-path t c =
    let lt : c.loop-path.path-index < length c.args.others.now = omega (arith, c.loop-path-test.true) in
    let less = member_more c.args.others.now c.loop-path.path-index c.path-item.result lt c.path-item.is in
    (subst (λ (n : ℕ). 4 * path_size c.path-item.result < n) c.decreases (omega (arith, less)), tt)

pub push_forward-returns-in_err-push_path-2 : goal.push_forward-returns-in_err-push_path-2
push_forward-returns-in_err-push_path-2 t c =
    let lt : c.loop-path.path-index < length c.args.others.now = omega (arith, c.loop-path-test.true) in
    let all = forward_rows (defined_path c.args.first.now ∷ map defined_path c.args.others.now) (map defined_path c.args.way.now) in
    let f = c.in_err-push_path-2.field-0.0 in
    let k = err_from_is_err_and c.from_residual-in_err-push_path-2.result c.from_residual-in_err-push_path-2.ensures.1 in
    stopped_exit all c.args.rows.now c.push_path-in-loop-path.new.rows c.from_residual-in_err-push_path-2.result f k.0 k.1 k.2
    (forward_stopped c.args.others.now c.loop-path.path-index c.path-item.result lt c.path-item.is c.args.rows.now c.loop-path.rows all f c.loop-path.longer c.as_slice.result.now c.as_slice.ensures c.loop-path.invariant c.in_err-push_path-2.ensures)

pub push_path-push_through-requires : goal.push_path-push_through-requires
push_path-push_through-requires t c =
    let f = c.deref-in-Sequence.result.now in
    let ps = c.deref-in-Sequence-2.result.now in
    let less = sequence_smaller c.args.path.now c.in-Sequence.first c.in-Sequence.others f ps c.deref-in-Sequence.ensures c.deref-in-Sequence-2.ensures.value c.in-Sequence.is in
    (subst (λ (n : ℕ). 4 * (path_size f + list_size ps) + 2 < n) c.decreases (omega (arith, less)), tt)

pub push_path-push_each-requires : goal.push_path-push_each-requires
push_path-push_each-requires t c =
    let f = c.deref-in-Alternative.result.now in
    let ps = c.deref-in-Alternative-2.result.now in
    let less = alternative_smaller c.args.path.now c.in-Alternative.first c.in-Alternative.others f ps c.deref-in-Alternative.ensures c.deref-in-Alternative-2.ensures.value c.in-Alternative.is in
    (subst (λ (n : ℕ). 4 * (path_size f + list_size ps) + 1 < n) c.decreases (omega (arith, less)), tt)

pub push_path-returns-in-Sequence : goal.push_path-returns-in-Sequence
push_path-returns-in-Sequence t c =
    let parts = sequence_parts c.args.path.now c.in-Sequence.first c.in-Sequence.others c.deref-in-Sequence.result.now c.deref-in-Sequence-2.result.now c.deref-in-Sequence.ensures c.deref-in-Sequence-2.ensures.value c.in-Sequence.is in
    subst (λ (p : defined.Path). Adds (path_rows c.args.reversed p (map defined_path c.args.way.now)) c.args.rows.now c.push_through.new.rows c.push_through.result) (sym parts) c.push_through.ensures

pub push_path-returns-in-Alternative : goal.push_path-returns-in-Alternative
push_path-returns-in-Alternative t c =
    let f = c.deref-in-Alternative.result.now in
    let ps = c.deref-in-Alternative-2.result.now in
    let q = map defined_path c.args.way.now in
    let parts = alternative_parts c.args.path.now c.in-Alternative.first c.in-Alternative.others f ps c.deref-in-Alternative.ensures c.deref-in-Alternative-2.ensures.value c.in-Alternative.is in
    subst (λ (p : defined.Path). Adds (path_rows c.args.reversed p q) c.args.rows.now c.push_each.new.rows c.push_each.result) (sym parts)
    (subst (λ (rows : List LookRow). Adds rows c.args.rows.now c.push_each.new.rows c.push_each.result) (sym (each_members c.args.reversed (defined_path f) (map defined_path ps) q)) c.push_each.ensures)

pub push_through-returns-then-reversed : goal.push_through-returns-then-reversed
push_through-returns-then-reversed t c =
    let p = defined_path c.args.first.now in
    let ps = map defined_path c.args.others.now in
    let q = map defined_path c.args.way.now in
    subst (λ (b : Bool). Adds (through_rows b (members p ps) q) c.args.rows.now c.push_backward.new.rows c.push_backward.result) (sym c.if-reversed.true)
    (subst (λ (rows : List LookRow). Adds rows c.args.rows.now c.push_backward.new.rows c.push_backward.result) (sym (backward_members p ps q)) c.push_backward.ensures)

pub push_through-returns-else-reversed : goal.push_through-returns-else-reversed
push_through-returns-else-reversed t c =
    let p = defined_path c.args.first.now in
    let ps = map defined_path c.args.others.now in
    let q = map defined_path c.args.way.now in
    subst (λ (b : Bool). Adds (through_rows b (members p ps) q) c.args.rows.now c.push_forward.new.rows c.push_forward.result) (sym c.if-reversed.false)
    (subst (λ (rows : List LookRow). Adds rows c.args.rows.now c.push_forward.new.rows c.push_forward.result) (sym (forward_members p ps q)) c.push_forward.ensures)
