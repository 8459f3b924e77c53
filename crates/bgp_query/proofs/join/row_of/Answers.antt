use Rattle.std.proofs.Common.{◌≡◌, ◌∙◌, ◌+◌, ℕ, List, ap, arith, length}
use Rattle.std.proofs.lemmas.List.{length_push}
use Rattle.bgp_query.proofs.Rows.{not_free, row_full, row_more}
use Rattle.bgp_query.proofs.join.row_of.Goals as goal

pub unreachable-requires : goal.unreachable-requires
unreachable-requires c = not_free c.args.variables c.args.trail.now c.loop-variable.variable c.requires.covered c.loop-variable-test.true c.in-None.ensures

pub loop-variable-preserved : goal.loop-variable-preserved
loop-variable-preserved c = record {
  many = ap (λ (xs : List ℕ). length xs) c.in_ok-push.ensures.items ∙ length_push c.loop-variable.numbers.items c.in-Some.number ∙ ap (λ (n : ℕ). n + 1) c.loop-variable.invariant.many;
  right = row_more c.args.trail.now c.loop-variable.numbers.items c.push.new.self.items c.loop-variable.variable c.in-Some.number c.in_ok-push.ensures.items c.loop-variable.invariant.many c.loop-variable.invariant.right c.in-Some.ensures;
}

pub returns : goal.returns
returns c =
    let all : c.loop-variable.variable ≡ c.args.variables = omega (arith, c.loop-variable-test.false, c.loop-variable.auto.variable-end) in
    row_full c.args.variables c.args.trail.now c.loop-variable.numbers.items c.requires.trail (c.loop-variable.invariant.many ∙ all) (λ v l. c.loop-variable.invariant.right v (omega (arith, l, all)))
