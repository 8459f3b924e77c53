use Rattle.std.proofs.Common.{◌≡◌, ◌∙◌, length, take, ap, arith}
use Rattle.std.proofs.Math.Seq.{take-length}
use Rattle.term_dict.proofs.Growing.{met_next}
use Rattle.term_dict.proofs.table.met_again.Goals as goal

pub loop-number-preserved : goal.loop-number-preserved
loop-number-preserved c = met_next c.args.table.now c.loop-number.met c.place.new.self c.loop-number.number c.in-Some.term.now c.recall_numbering.ensures c.in-Some.ensures.0 c.in-Some.ensures.1 c.loop-number.invariant c.in_ok-place-in-Some.ensures.terms

pub unreachable-requires : goal.unreachable-requires
unreachable-requires c =
    let none = c.in-None.ensures in
    let inside = c.loop-number-test.true in
    omega (arith, none, inside, c.len-number-end.ensures)

pub returns : goal.returns
returns c =
    let all : c.loop-number.number ≡ length c.args.table.now = omega (arith, c.loop-number-test.false, c.loop-number.auto.number-end, c.len-number-end.ensures) in
    c.loop-number.invariant ∙ ap (λ n. take n c.args.table.now) all ∙ take-length c.args.table.now
